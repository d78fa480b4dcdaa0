-- The jobs that may start and the fibers that may go on, with how many fibers may be ready at once.
use Rattle.std.specs.Prelude.{ℕ, suc, nat_lt, ◌==◌, if◌then◌else◌, List, [], ◌∷◌}
use Rattle.job_core.specs.declared.names.JobName.{JobName}
use Rattle.job_core.specs.declared.names.JobName.TheVariants.{Logic}
use Rattle.job_core.specs.Core.{same}
use Rattle.board_model.specs.Lists.{Three, none, Priority, add, take_from}
use Rattle.board_model.specs.Board.{Queues, priority_of}

pub record BoundedQueues : Type 0 where
  pub queues : Queues
  pub fibers : ℕ

abbrev pub empty : ℕ → BoundedQueues
empty fibers = record { queues = record { fresh = none; ready = none }; fibers = fibers }

abbrev pub with_fresh : BoundedQueues → Three JobName → BoundedQueues
with_fresh q fresh = record { queues = record { fresh = fresh; ready = q.queues.ready }; fibers = q.fibers }

abbrev pub with_ready : BoundedQueues → Three ℕ → BoundedQueues
with_ready q ready = record { queues = record { fresh = q.queues.fresh; ready = ready }; fibers = q.fibers }

-- a new job, at the end of the queue of its priority
abbrev pub put_new : JobName → BoundedQueues → BoundedQueues
put_new job q = with_fresh q (add (priority_of job) job q.queues.fresh)

abbrev pub put_ready : Priority → ℕ → BoundedQueues → BoundedQueues
put_ready priority fiber q = with_ready q (add priority fiber q.queues.ready)

-- the Logic of the next frame, if there is one
abbrev pub logic_after : (frame frames : ℕ) → List JobName
logic_after frame frames = if nat_lt frame frames then (Logic (suc frame) ∷ []) else []

-- without the first entry of this job, of the highest priority that has one
abbrev pub without_job : JobName → BoundedQueues → BoundedQueues
without_job job q = with_fresh q (take_from (same job) q.queues.fresh)

abbrev pub without_fiber : ℕ → BoundedQueues → BoundedQueues
without_fiber fiber q = with_ready q (take_from (λ other. fiber == other) q.queues.ready)
