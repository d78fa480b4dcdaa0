-- Which job goes first: the one of the highest priority, and of one priority a job that is ready before one that may start.
use Rattle.std.specs.Prelude.{◌≡◌, ◌<◌, ℕ}
use Rattle.job_core.specs.declared.names.JobName.{JobName}
use Rattle.job_core.specs.declared.names.JobName.TheVariants.{Logic, Think, Path, Draw}
use Rattle.job_core.specs.declared.names.Priority.{Priority}
use Rattle.job_core.specs.declared.names.Priority.TheVariants.{High, Normal, Low}
use Rattle.job_core.specs.Core.{Setup, State, Queued, HasFiber, IsReady}

abbrev pub rank : Priority → ℕ
rank High = 2
rank Normal = 1
rank Low = 0

abbrev pub priority : JobName → ℕ
priority (Logic f) = 2
priority (Path f a i) = 2
priority (Think f a) = 1
priority (Draw f b) = 0

abbrev pub MayStart : Setup → State → JobName → Type 0
MayStart s st job = (st.phase job ≡ Queued) × HasFiber s st job

-- No job of a higher priority is ready or may start, and where this one isn't ready none of its priority is.
pub record GoesFirst (s : Setup) (st : State) (job : JobName) : Type 0 where
  pub highest : (other : JobName) → priority job < priority other → (IsReady s st other → ⊥) × (MayStart s st other → ⊥)
  pub ready_first : (IsReady s st job → ⊥) → (other : JobName) → priority other ≡ priority job → IsReady s st other → ⊥
