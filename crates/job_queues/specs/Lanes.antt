-- Which job may start, where a pick stands in one priority's queues, and what is left of them without it.
use Rattle.std.specs.Prelude.{◌≡◌, ◌==◌, ℕ, nat_lt, Bool, List}
use Rattle.job_core.specs.declared.names.JobName.{JobName}
use Rattle.job_core.specs.declared.names.Size.{Size}
use Rattle.job_core.specs.declared.names.Size.TheVariants.{Small, Large}
use Rattle.job_core.specs.Core.{same, size_of}
use Rattle.job_queues.specs.declared.free.Free.{Free}
use Rattle.job_queues.specs.declared.pick.Pick.{Pick}
use Rattle.job_queues.specs.declared.pick.Pick.TheVariants.{Ready, New}
use Rattle.board_model.specs.Lists.{drop_first}
use Rattle.job_queues.specs.Places.{IsFirst}

abbrev pub free_of : Free → Size → ℕ
free_of free Small = free.small
free_of free Large = free.large

-- where this many fibers of each size are free
abbrev pub may_start : Free → JobName → Bool
may_start free job = nat_lt 0 (free_of free (size_of job))

abbrev pub free_fibers : (small large : ℕ) → Free
free_fibers small large = record { small = small; large = large }

-- the first entry of what is picked stands here
abbrev pub IsPlaceOf : Pick → ℕ → (ready : List ℕ) → (fresh : List JobName) → Type 0
IsPlaceOf (Ready fiber) i ready fresh = IsFirst (λ other. fiber == other) ready i
IsPlaceOf (New job) i ready fresh = IsFirst (same job) fresh i

-- it went, and no other entry
abbrev pub IsTakenFrom : Pick → (ready new_ready : List ℕ) → (fresh new_fresh : List JobName) → Type 0
IsTakenFrom (Ready fiber) ready new_ready fresh new_fresh = (new_ready ≡ drop_first (λ other. fiber == other) ready) × (new_fresh ≡ fresh)
IsTakenFrom (New job) ready new_ready fresh new_fresh = (new_ready ≡ ready) × (new_fresh ≡ drop_first (same job) fresh)
