-- A board on which something can be done.
use Rattle.std.specs.Prelude.{◌≡◌, ◌⊎◌, ℕ}
use Rattle.job_core.specs.declared.names.JobName.{JobName}
use Rattle.job_core.specs.declared.names.Event.{Event}
use Rattle.job_core.specs.declared.names.Event.TheVariants.{Start, Resume, Emit}
use Rattle.job_core.specs.Core.{Runs}
use Rattle.job_scheduler.specs.Logged.{reached}
use Rattle.frame_jobs.specs.Boards.{FrameBoard, IsOpen, MayHappen}

-- what needs nobody's job to come to something
abbrev pub IsGiven : Event → Type 0
IsGiven (Start w j) = Unit {0}
IsGiven (Resume w j) = Unit {0}
IsGiven (Emit f) = Unit {0}
IsGiven _ = ⊥

-- a worker runs a job, of which it can tell what that has come to; or a job can be taken up, or a frame be shown
abbrev pub IsGoing : (b : FrameBoard) → IsOpen b → Type 0
IsGoing b k = ((w : ℕ) × (j : JobName) × (step : ℕ) × ((reached b.jobs k.questions).phase j ≡ Runs w step)) ⊎ ((e : Event) × IsGiven e × MayHappen b e)
