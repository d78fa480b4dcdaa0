use Rattle.std.proofs.Common.{arith}
use Rattle.std.proofs.lemmas.Grind.{common_steps}
use Rattle.frame_state.specs.Contents.{memory_before}
use Rattle.frame_state.proofs.frame_start.FrameStart.memory_of.Goals as goal

pub returns-clause-value : goal.returns-clause-value
unfolding memory_before
returns-clause-value c = grind (arith, common_steps)
