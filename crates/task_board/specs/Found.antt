-- What a worker is found to do next: the job, where it stands, and the event that it is.
use Rattle.std.specs.Prelude.{ℕ, zero}
use Rattle.job_core.specs.declared.names.JobName.{JobName}
use Rattle.job_core.specs.declared.names.Event.{Event}
use Rattle.job_core.specs.declared.names.Event.TheVariants.{Start as StartEvent, Resume as ResumeEvent}
use Rattle.job_scheduler.specs.declared.next.Next.{Next}
use Rattle.job_scheduler.specs.declared.next.Next.TheVariants.{Start, Resume}
use Rattle.task_board.specs.Boards.{Played, IsStart, IsResume}

abbrev pub job_next : Next → JobName
job_next (Start job place) = job
job_next (Resume fiber held place) = held.job

abbrev pub step_next : Next → ℕ
step_next (Start job place) = zero
step_next (Resume fiber held place) = held.step

abbrev pub event_of : ℕ → Next → Event
event_of w (Start job place) = StartEvent w job
event_of w (Resume fiber held place) = ResumeEvent w held.job

abbrev pub IsFound : Played → ℕ → Next → Type 0
IsFound b w (Start job place) = IsStart b w job place
IsFound b w (Resume fiber held place) = IsResume b w fiber held place
