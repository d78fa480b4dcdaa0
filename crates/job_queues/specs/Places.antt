-- The place of the first item of a list that passes a test, in the words of lists.
use Rattle.std.specs.Prelude.{◌≡◌, ◌<◌, ℕ, Bool, true, false, List, Option, Some, None, length, find, slice_index_or, slice_set, remove}
use Rattle.board_model.specs.Lists.{has, drop_first, change_first}

pub record IsFirst {X : Type 0} (p : X → Bool) (xs : List X) (i : ℕ) : Type 0 where
  pub bound : i < length xs
  pub there : has p xs ≡ true
  pub value : (d : X) → find p xs ≡ Some (slice_index_or xs i d)
  pub rest : drop_first p xs ≡ remove xs i
  pub changed : (f : X → X) (d : X) → change_first f p xs ≡ slice_set xs i (f (slice_index_or xs i d))

pub record HasNone {X : Type 0} (p : X → Bool) (xs : List X) : Type 0 where
  pub absent : has p xs ≡ false
  pub value : find p xs ≡ None
  pub rest : drop_first p xs ≡ xs
  pub changed : (f : X → X) → change_first f p xs ≡ xs

-- where the first item that passes stands, if one does
abbrev pub IsFirstPlace : {X : Type 0} → (X → Bool) → List X → Option ℕ → Type 0
IsFirstPlace p xs None = HasNone p xs
IsFirstPlace p xs (Some i) = IsFirst p xs i
