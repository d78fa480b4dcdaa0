use Rattle.std.proofs.Common.{◌≡◌, ◌+◌, ◌*◌, ◌∙◌, ap, arith}
use Rattle.draw_list.specs.declared.band.Band.{Band}
use Rattle.draw_list.proofs.Items.{past_end, stands_there}
use Rattle.draw_list.proofs.band.Band.item.Goals as goal

pub returns-in_err-glyph : goal.returns-in_err-glyph
returns-in_err-glyph c = λ w on high is.
    let width : c.args.self.now.width ≡ w.width = ap (λ (b : Band). b.width) is in
    let rows = c.as_bytes.ensures ∙ ap (λ (b : Band). b.rows) is in
    c.from_residual-in_err-glyph.ensures
    ∙ past_end w on c.args.self.now.number c.args.x c.args.row c.as_bytes.result.now rows ((c.args.self.now.width + 1) * c.args.row + c.args.x)
    (rw width (omega arith)) (omega (arith, width, c.if-x-self.false)) c.in_err-glyph.ensures.lookup.3

pub returns : goal.returns
returns c = λ w on high is.
    let width : c.args.self.now.width ≡ w.width = ap (λ (b : Band). b.width) is in
    let rows = c.as_bytes.ensures ∙ ap (λ (b : Band). b.rows) is in
    stands_there w on c.args.self.now.number c.args.x c.args.row c.as_bytes.result.now rows ((c.args.self.now.width + 1) * c.args.row + c.args.x)
    (rw width (omega arith)) (omega (arith, width, c.if-x-self.false)) c.in_ok-y.y c.in_ok-glyph.field-0.now c.in_ok-glyph.ensures.lookup.3.0
    (omega (arith, c.in_ok-y.ensures, c.in_ok-checked_mul.ensures)) c.in_ok-glyph.ensures.lookup.1
