-- A pool of fibers: how many of them are small, which are the first, and which are taken.
use Rattle.std.specs.Prelude.{ℕ, ◌+◌, Bool, false, List, replicate}
use Rattle.board_model.specs.Lists.{write}

pub record Pool : Type 0 where
  pub small : ℕ
  pub taken : List Bool

abbrev pub all_free : (small large : ℕ) → Pool
all_free small large = record { small = small; taken = replicate (small + large) false }

abbrev pub with_fiber : ℕ → Bool → Pool → Pool
with_fiber fiber taken p = record { small = p.small; taken = write p.taken fiber taken }
