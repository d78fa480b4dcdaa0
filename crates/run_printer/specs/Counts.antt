-- How many bands were taken of each worker.
use Rattle.std.specs.Prelude.{◌≤◌, ℕ, List, [], length, slice_index, slice_index_or}

-- no number is greater than the list at its place is long
abbrev pub AreAtMost : {T : Type 0} → List ℕ → List (List T) → Type 0
AreAtMost counts lists = (k : ℕ) → slice_index counts k ≤ length (slice_index_or lists k [])
