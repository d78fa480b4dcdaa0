-- Counters that are started, awaited and taken out again.
use Rattle.std.proofs.Common.{◌≡◌, ◌<◌, ℕ, zero, suc, false, List, [], ◌∷◌, ◌++◌, Some, None, if◌then◌else◌, refl, sym, ap, ◌∙◌, arith}
use Rattle.job_core.specs.Core.{Counter, Thinks, Shown}
use Rattle.board_model.specs.Lists.{drop_first, change_first}
use Rattle.board_model.specs.Board.{Row, same_counter, has_key, first_row, raise, wait, with_waiter}
use Rattle.board_model.proofs.Kit.{by_bool}
use Rattle.board_model.proofs.Tables.{counter_other}
use Rattle.counters.specs.Rows.{started}
use Rattle.counters.proofs.Pairs.{first_row_last, cancelled, change_dropped}

-- ---- where no row of the key stands

module _ (k : Counter) where
  pub absent_changed : (f : Row → Row) (rows : List Row) → first_row k rows ≡ None → change_first f (has_key k) rows ≡ rows
  absent_changed f [] n = refl
  absent_changed f (r ∷ rs) n = by_bool (has_key k r) (λ b. (if b then Some r else first_row k rs) ≡ None → (if b then (f r ∷ rs) else (r ∷ change_first f (has_key k) rs)) ≡ r ∷ rs) (λ _ m. absurd cc) (λ _ m. ap (λ xs. r ∷ xs) (absent_changed f rs m)) n

  pub absent_dropped : (rows : List Row) → first_row k rows ≡ None → drop_first (has_key k) rows ≡ rows
  absent_dropped [] n = refl
  absent_dropped (r ∷ rs) n = by_bool (has_key k r) (λ b. (if b then Some r else first_row k rs) ≡ None → (if b then rs else (r ∷ drop_first (has_key k) rs)) ≡ r ∷ rs) (λ _ m. absurd cc) (λ _ m. ap (λ xs. r ∷ xs) (absent_dropped rs m)) n

  -- nobody waits for a counter that isn't kept
  pub raised_none : (fiber : ℕ) (rows : List Row) → first_row k rows ≡ None → rows ≡ wait k fiber (raise k 0 rows)
  raised_none fiber rows n = sym (absent_changed (with_waiter fiber) rows n)

  -- a counter that was started is taken out again
  pub raise_undone : (number : ℕ) (rows : List Row) → first_row k rows ≡ None → drop_first (has_key k) (raise k number rows) ≡ rows
  raise_undone zero rows n = absent_dropped rows n
  raise_undone (suc number) rows n = cancelled k (started k (suc number)) refl rows n

  pub awaited_undone : (number fiber : ℕ) (rows : List Row) → first_row k rows ≡ None → drop_first (has_key k) (wait k fiber (raise k number rows)) ≡ rows
  awaited_undone number fiber rows n = change_dropped (with_waiter fiber) (λ row. refl) k (raise k number rows) ∙ raise_undone number rows n

  pub raise_is : (number : ℕ) (rows : List Row) → 0 < number → rows ++ started k number ∷ [] ≡ raise k number rows
  raise_is zero rows l = absurd (omega arith)
  raise_is (suc number) rows l = refl

  pub raised_there : (number : ℕ) (rows : List Row) → first_row k rows ≡ None → first_row k (raise k (suc number) rows) ≡ Some (started k (suc number))
  raised_there number rows n = first_row_last k (started k (suc number)) refl rows n

  -- a row of another key
  absent_last : (row : Row) (rows : List Row) → same_counter k row.key ≡ false → first_row k rows ≡ None → first_row k (rows ++ row ∷ []) ≡ None
  absent_last row [] o n = rw o refl
  absent_last row (r ∷ rs) o n = by_bool (has_key k r) (λ b. (if b then Some r else first_row k rs) ≡ None → (if b then Some r else first_row k (rs ++ row ∷ [])) ≡ None) (λ _ m. absurd cc) (λ _ m. absent_last row rs o m) n

  pub absent_raised : (l : Counter) (number : ℕ) (rows : List Row) → (k ≡ l → ⊥) → first_row k rows ≡ None → first_row k (raise l number rows) ≡ None
  absent_raised l zero rows o n = n
  absent_raised l (suc number) rows o n = absent_last (started l (suc number)) rows (counter_other k l o) n

-- the two counters of a frame
pub frame_undone : (frame number fiber : ℕ) (rows : List Row) → first_row (Thinks frame) rows ≡ None → first_row (Shown frame) rows ≡ None
    → drop_first (has_key (Shown frame)) (drop_first (has_key (Thinks frame)) (wait (Thinks frame) fiber (raise (Thinks frame) number (raise (Shown frame) 1 rows)))) ≡ rows
frame_undone frame number fiber rows t s =
    ap (drop_first (has_key (Shown frame))) (awaited_undone (Thinks frame) number fiber (raise (Shown frame) 1 rows) (absent_raised (Thinks frame) (Shown frame) 1 rows (λ e. cc) t)) ∙ raise_undone (Shown frame) 1 rows s
