use Rattle.std.proofs.Common.{◌≡◌, ◌<◌, ◌≤◌, ◌++◌, ℕ, subst, sym, arith}
use Rattle.commands.specs.Opening.{IsSteppedTo}
use Rattle.commands.specs.Texts.{digest_line}
use Rattle.commands.proofs.Lines.{lines_begun, lines_more, lines_ended}
use Rattle.commands.proofs.digests.push_lines.Goals as goal

pub frames-init : goal.frames-init
frames-init c = record {
  within = omega (arith, c.requires.begun);
  goes = λ g h. subst (λ (n : ℕ). IsSteppedTo g n c.args.game.now) (sym c.requires.begun) h;
  text = λ g h. lines_begun g c.args.frames c.args.text.now.items c.args.game.now.frame c.requires.begun;
}

pub frames-preserved : goal.frames-preserved
frames-preserved c =
    let frame = c.in_ok-step.ensures.frame in
    let less : c.frames.game.frame < c.args.frames = omega (arith, c.frames-test.true, c.frame.ensures) in
    let line = subst (λ (n : ℕ). c.push_line.new.text.items ≡ c.frames.text.items ++ digest_line n c.digest.result) c.frame-in-frames.ensures c.in_ok-push_line.ensures in
    record {
      within = omega (arith, c.frames-test.true, frame);
      goes = λ g h. subst (λ (n : ℕ). IsSteppedTo g n c.step.new.game) (sym frame) (c.in_ok-step.ensures.ok g (c.frames.invariant.goes g h));
      text = λ g h.
          lines_more g c.args.frames c.frames.game.frame c.step.new.game c.digest.result c.frames.text.items c.push_line.new.text.items _
          less frame (c.in_ok-step.ensures.ok g (c.frames.invariant.goes g h)) c.digest.ensures line (c.frames.invariant.text g h);
    }

pub returns-clause-ok : goal.returns-clause-ok
returns-clause-ok c = λ g h.
    let over : c.args.frames ≤ c.frames.game.frame = omega (arith, c.frames-test.false, c.frame.ensures) in
    lines_ended g c.args.frames c.frames.game.frame c.frames.text.items _ over (c.frames.invariant.text g h)
