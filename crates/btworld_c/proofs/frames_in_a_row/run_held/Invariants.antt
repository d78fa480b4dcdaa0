use Rattle.std.proofs.Common.{take}
use Rattle.btworld_c.specs.Frames.{AreSteps}
use Rattle.btworld_c.proofs.frames_in_a_row.run_held.Given as goal

abbrev pub invariant-frames : goal.invariant-frames
invariant-frames l = AreSteps (take l.number l.signals) l.fn.held l.held
