-- Tables of which the front is used: their entries are those of the front.
use Rattle.std.proofs.Common.{◌≡◌, ◌<◌, ◌≤◌, ℕ, zero, suc, List, [], ◌∷◌, Option, None, length, take, replicate, slice_set, slice_index_or, refl, sym, ap, ◌∙◌, arith}
use Rattle.board_model.specs.Lists.{at}
use Rattle.board_model.proofs.Kit.{at_other}
use Rattle.board_model.proofs.Bridges.{write_is}
use Rattle.job_scheduler.specs.Fronts.{IsEmptyBehind}
use Rattle.job_scheduler.proofs.Entries.{at_in, at_out}

module _ {X : Type 0} where
  front_at : (n : ℕ) (xs : List (Option X)) → IsEmptyBehind n xs → (i : ℕ) → at (take n xs) i ≡ at xs i
  front_at zero xs e i = sym (e i (omega arith))
  front_at (suc n) [] e i = refl
  front_at (suc n) (x ∷ xs) e zero = refl
  front_at (suc n) (x ∷ xs) e (suc i) = front_at n xs (λ j l. e (suc j) (omega arith)) i

  -- an entry of the table, and none past its end
  pub entry_there : (n : ℕ) (xs : List (Option X)) → IsEmptyBehind n xs → (i : ℕ) (entry : Option X) → i < length xs → entry ≡ slice_index_or xs i entry → entry ≡ at (take n xs) i
  entry_there n xs e i entry l is = is ∙ (sym (at_in xs i entry l) ∙ sym (front_at n xs e i))

  pub entry_past : (n : ℕ) (xs : List (Option X)) → IsEmptyBehind n xs → (i : ℕ) → length xs ≤ i → None ≡ at (take n xs) i
  entry_past n xs e i l = sym (at_out xs i l) ∙ sym (front_at n xs e i)

  -- a write into the front
  pub still_empty : (n : ℕ) (xs : List (Option X)) → IsEmptyBehind n xs → (i : ℕ) (x : Option X) → i < n → IsEmptyBehind n (slice_set xs i x)
  still_empty n xs e i x l = λ k m. ap (λ ys. at ys k) (sym (write_is xs i x)) ∙ (at_other xs i k x (λ same. absurd (omega arith)) ∙ e k m)

  none_at : (m : ℕ) (i : ℕ) → at {X = X} (replicate m None) i ≡ None
  none_at zero i = refl
  none_at (suc m) zero = refl
  none_at (suc m) (suc i) = none_at m i

  pub all_empty : (n m : ℕ) → IsEmptyBehind {X = X} n (replicate m None)
  all_empty n m = λ i l. none_at m i
