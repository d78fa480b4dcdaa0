-- The counters of a board: the fibers that wait for one, and that each has a key of its own.
use Rattle.std.specs.Prelude.{◌≡◌, ℕ, List, [], ◌∷◌, Option, Some, None}
use Rattle.board_model.specs.Board.{Row, first_row}

-- the first that waits, if there is one, and those after it
abbrev pub listed : Option ℕ → List ℕ → List ℕ
listed None more = more
listed (Some first) more = first ∷ more

-- no row has the key of one before it
abbrev pub IsUnique : List Row → Type 0
IsUnique [] = Unit {0}
IsUnique (row ∷ rows) = (first_row row.key rows ≡ None) × IsUnique rows
