-- A list whose first n items are gone.
use Rattle.std.proofs.Common.{◌≡◌, ◌<◌, ◌≤◌, ◌+◌, ◌-◌, ℕ, zero, suc, List, [], ◌∷◌, ◌++◌, Some, None, length, take, drop, slice_get, refl, sym, ap, ◌∙◌, arith}
use Rattle.std.specs.List.{remove}
use Rattle.std.proofs.lemmas.List.{length-drop, drop-append-le}
use Rattle.std.proofs.Math.ListN.{drop_of_length-le}
use Rattle.std.proofs.Math.Seq.{take-append_seam}

module _ {X : Type 0} where
  pub first_behind : (n : ℕ) (xs : List X) → slice_get (drop n xs) 0 ≡ slice_get xs n
  first_behind zero xs = refl
  first_behind (suc n) [] = refl
  first_behind (suc n) (x ∷ xs) = first_behind n xs

  pub step_behind : (n : ℕ) (xs : List X) → drop (suc n) xs ≡ drop 1 (drop n xs)
  step_behind zero xs = refl
  step_behind (suc n) [] = refl
  step_behind (suc n) (x ∷ xs) = step_behind n xs

  -- the last one goes
  pub none_behind : (n : ℕ) (xs : List X) → length xs ≡ suc n → [] ≡ drop 1 (drop n xs)
  none_behind n xs e = let l : length xs ≤ suc n = omega (arith, e) in sym (drop_of_length-le xs l) ∙ step_behind n xs

  pub remove_behind : (n k : ℕ) (xs : List X) → n + k < length xs → drop n (remove xs (n + k)) ≡ remove (drop n xs) k
  remove_behind zero k xs l = let e : 0 + k ≡ k = omega arith in ap (remove xs) e
  remove_behind (suc n) k [] l = absurd (omega (arith, l))
  remove_behind (suc n) k (x ∷ xs) l = let e : suc n + k ≡ suc (n + k) = omega arith in ap (λ i. drop (suc n) (remove (x ∷ xs) i)) e ∙ remove_behind n k xs (omega (arith, l))

  pub shift_behind : (n : ℕ) (xs : List X) → take (length xs - n) (drop n xs ++ take n xs) ≡ drop n xs
  shift_behind n xs = ap (λ k. take k (drop n xs ++ take n xs)) (sym (length-drop n xs)) ∙ take-append_seam (drop n xs) (take n xs)

  pub put_behind : (n : ℕ) (xs : List X) (x : X) → n ≤ length xs → drop n (xs ++ x ∷ []) ≡ drop n xs ++ x ∷ []
  put_behind n xs x l = drop-append-le n xs (x ∷ []) l

  -- ---- the first that is there

  pub nothing_first : (xs : List X) → slice_get xs 0 ≡ None → xs ≡ []
  nothing_first [] e = refl
  nothing_first (x ∷ xs) e = absurd cc

  pub first_and_rest : (xs : List X) (x : X) → slice_get xs 0 ≡ Some x → xs ≡ x ∷ drop 1 xs
  first_and_rest [] x e = absurd cc
  first_and_rest (y ∷ ys) x e = let i : y ≡ x = cc in ap (λ z. z ∷ ys) i
