-- What the calls on counters answer.
use Rattle.std.specs.Prelude.{◌≡◌, ◌<◌, ℕ, ◌+◌, List, Option, Some}
use Rattle.job_core.specs.Core.{Counter}
use Rattle.board_model.specs.Board.{Row, first_row, waiters_in, wait}
use Rattle.counters.specs.declared.counters.Lowered.{Lowered}
use Rattle.counters.specs.declared.counters.Lowered.TheVariants.{Left, Zero}
use Rattle.counters.specs.declared.counters.Waits.{Waits}
use Rattle.counters.specs.declared.counters.Waits.TheVariants.{Kept, AtZero}
use Rattle.counters.specs.Rows.{left_in}

-- the answer of a counter that was lowered from this row: all its waiters at 0, and there only
abbrev pub IsLowered : Lowered → Option Row → Type 0
IsLowered (Left number) row = (0 < number) × (left_in row ≡ Some (number + 1))
IsLowered (Zero fibers) row = (left_in row ≡ Some 1) × (fibers.items ≡ waiters_in row)

-- a fiber is kept above 0, and there only
abbrev pub IsWaiting : Counter → ℕ → Waits → (old new : List Row) → Type 0
IsWaiting key fiber Kept old new = (left_in (first_row key old) ≡ Some 0 → ⊥) × (new ≡ wait key fiber old)
IsWaiting key fiber AtZero old new = (left_in (first_row key old) ≡ Some 0) × (new ≡ old)
