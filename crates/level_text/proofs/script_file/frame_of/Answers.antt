use Rattle.std.proofs.Common.{arith, sym, get_or, refl}
use Rattle.std.proofs.lemmas.Grind.{common_steps}
use Rattle.level_text.proofs.FrameNumbers.{frame_of_large}
use Rattle.level_text.proofs.script_file.frame_of.Goals as goal

pub returns-then-frame-gt9999 : goal.returns-then-frame-gt9999
returns-then-frame-gt9999 c =
    sym (frame_of_large c.args.word.now c.loop-b.b-index c.loop-b.frame (get_or c.args.word.now c.loop-b.b-index 0) c.loop-b-test.true refl c.loop-b.invariant.number
    (grind (arith, common_steps)))
