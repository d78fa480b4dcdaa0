use Rattle.frame_jobs_c.specs.Calls.{event_state}
use Rattle.frame_jobs_c.proofs.Copying.{IsWritten}
use Rattle.frame_jobs_c.proofs.board_reading.copy.Given as goal

abbrev pub invariant-loop-place : goal.invariant-loop-place
invariant-loop-place l = IsWritten event_state l.place l.from l.initial.events l.events
