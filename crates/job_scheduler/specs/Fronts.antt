-- A table of which the front is used.
use Rattle.std.specs.Prelude.{◌≡◌, ◌≤◌, ℕ, List, Option, None}
use Rattle.board_model.specs.Lists.{at}

-- nothing stands behind its front
abbrev pub IsEmptyBehind : {X : Type 0} → ℕ → List (Option X) → Type 0
IsEmptyBehind front table = (i : ℕ) → front ≤ i → at table i ≡ None
