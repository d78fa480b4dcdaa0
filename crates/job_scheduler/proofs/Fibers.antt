-- The test of the queues, where so many fibers of each size are free, is that of the board's law.
use Rattle.std.proofs.Common.{◌≡◌, ℕ, nat_lt, not, ap}
use Rattle.job_core.specs.declared.names.JobName.{JobName}
use Rattle.job_core.specs.declared.names.Size.{Size}
use Rattle.job_core.specs.declared.names.Size.TheVariants.{Small, Large}
use Rattle.job_core.specs.Core.{size_of}
use Rattle.board_model.specs.Lists.{tally}
use Rattle.board_model.specs.Board.{Seats, taken_of, has_fiber}
use Rattle.job_queues.specs.Lanes.{free_of, may_start, free_fibers}

module _ (t : Seats) (small large : ℕ) (few : small ≡ tally not (taken_of t Small)) (many : large ≡ tally not (taken_of t Large)) where
  of_size : (z : Size) → nat_lt 0 (free_of (free_fibers small large) z) ≡ nat_lt 0 (tally not (taken_of t z))
  of_size Small = ap (nat_lt 0) few
  of_size Large = ap (nat_lt 0) many

  of_job : (j : JobName) → may_start (free_fibers small large) j ≡ has_fiber t j
  of_job j = of_size (size_of j)

  pub may_start_is : may_start (free_fibers small large) ≡ has_fiber t
  may_start_is = λ i j. of_job j i
