-- The rows of the table of counters, and what lowering makes of one.
use Rattle.std.specs.Prelude.{ℕ, ◌==◌, if◌then◌else◌, List, [], Option, Some, None}
use Rattle.job_core.specs.Core.{Counter}
use Rattle.board_model.specs.Lists.{change_first}
use Rattle.board_model.specs.Board.{Row, has_key, lowered}

abbrev pub started : Counter → ℕ → Row
started key number = record { key = key; left = number; waiters = [] }

abbrev pub left_in : Option Row → Option ℕ
left_in None = None
left_in (Some row) = Some row.left

-- at 0, and nobody waits any more
abbrev pub emptied : Row → Row
emptied row = record { key = row.key; left = 0; waiters = [] }

abbrev pub one_less : Row → Row
one_less row = if row.left == 1 then emptied row else lowered row

-- the counter of this key is lowered by one
abbrev pub less : Counter → List Row → List Row
less key rows = change_first one_less (has_key key) rows
