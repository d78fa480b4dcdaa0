-- What is drawn out of the jobs that stand ready.
use Rattle.std.specs.Prelude.{ℕ}
use Rattle.job_core.specs.declared.names.Event.TheVariants.{Start, Resume}
use Rattle.job_core.specs.Core.{IsLegal}
use Rattle.job_scheduler.specs.Looks.{Always}
use Rattle.frame_jobs.specs.declared.drawn.Drawn.{Drawn}
use Rattle.frame_jobs.specs.declared.drawn.Drawn.TheVariants.{New, Ready}
use Rattle.frame_jobs.specs.Boards.{FrameBoard}

-- the worker may take it up
abbrev pub MayTakeUp : FrameBoard → ℕ → Drawn → Type 0
MayTakeUp b w (New job) = Always b.jobs (λ s st. IsLegal s st (Start w job))
MayTakeUp b w (Ready job) = Always b.jobs (λ s st. IsLegal s st (Resume w job))
