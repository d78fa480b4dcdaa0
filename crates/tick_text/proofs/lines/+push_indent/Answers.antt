use Rattle.std.proofs.Common.{arith}
use Rattle.tick_text.proofs.Indents.{one_indented}
use Rattle.std.proofs.lemmas.Result.{on_ok_weaker}
use Rattle.tick_text.proofs.lines.+push_indent.Goals as goal

pub returns : goal.returns
returns t c =
    on_ok_weaker c.push_indent.result
    (one_indented c.args.text.now.items c.extend_from_slice.new.self.items c.push_indent.new.text.items c.args.depth (omega (arith, c.if-depth-eq0.false)) c.in_ok-extend_from_slice.ensures.items)
    c.push_indent.ensures
