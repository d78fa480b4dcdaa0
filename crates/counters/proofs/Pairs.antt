-- What two calls make together, in the board's words: a counter started and given up, started at 0 and ended.
use Rattle.std.proofs.Common.{◌≡◌, ℕ, suc, true, List, [], ◌∷◌, ◌++◌, Some, None, if◌then◌else◌, refl, ap, ◌∙◌}
use Rattle.job_core.specs.Core.{Counter}
use Rattle.board_model.specs.Lists.{drop_first, change_first}
use Rattle.board_model.specs.Board.{Row, same_counter, has_key, first_row, raise, wait, with_waiter}
use Rattle.board_model.proofs.Kit.{by_bool}
use Rattle.board_model.proofs.Tables.{counter_self}
use Rattle.counters.specs.Rows.{started}

-- ---- a counter that was started last

-- the key of the row is k
own_key : (k : Counter) (row : Row) → row.key ≡ k → has_key k row ≡ true
own_key k row e = ap (same_counter k) e ∙ counter_self k

module _ (k : Counter) (row : Row) (own : row.key ≡ k) where
  pub first_row_last : (rows : List Row) → first_row k rows ≡ None → first_row k (rows ++ row ∷ []) ≡ Some row
  first_row_last [] n = rw (own_key k row own) refl
  first_row_last (r ∷ rs) n = by_bool (has_key k r) (λ b. (if b then Some r else first_row k rs) ≡ None → (if b then Some r else first_row k (rs ++ row ∷ [])) ≡ Some row) (λ _ m. absurd cc) (λ _ m. first_row_last rs m) n

  -- to give it up undoes its start
  pub cancelled : (rows : List Row) → first_row k rows ≡ None → drop_first (has_key k) (rows ++ row ∷ []) ≡ rows
  cancelled [] n = rw (own_key k row own) refl
  cancelled (r ∷ rs) n = by_bool (has_key k r) (λ b. (if b then Some r else first_row k rs) ≡ None → (if b then (rs ++ row ∷ []) else (r ∷ drop_first (has_key k) (rs ++ row ∷ []))) ≡ r ∷ rs) (λ _ m. absurd cc) (λ _ m. ap (λ xs. r ∷ xs) (cancelled rs m)) n

  pub wait_last : (fiber : ℕ) (rows : List Row) → first_row k rows ≡ None → wait k fiber (rows ++ row ∷ []) ≡ rows ++ with_waiter fiber row ∷ []
  wait_last fiber [] n = rw (own_key k row own) refl
  wait_last fiber (r ∷ rs) n = by_bool (has_key k r) (λ b. (if b then Some r else first_row k rs) ≡ None → (if b then (with_waiter fiber r ∷ (rs ++ row ∷ [])) else (r ∷ wait k fiber (rs ++ row ∷ []))) ≡ r ∷ (rs ++ with_waiter fiber row ∷ [])) (λ _ m. absurd cc) (λ _ m. ap (λ xs. r ∷ xs) (wait_last fiber rs m)) n

-- and so once a fiber waits for it
pub cancelled_waiting : (k : Counter) (row : Row) → row.key ≡ k → (fiber : ℕ) (rows : List Row) → first_row k rows ≡ None → drop_first (has_key k) (wait k fiber (rows ++ row ∷ [])) ≡ rows
cancelled_waiting k row own fiber rows n = ap (drop_first (has_key k)) (wait_last k row own fiber rows n) ∙ cancelled k (with_waiter fiber row) own rows n

-- one started at 0 is ended at once
pub started_at_zero : (k : Counter) (rows : List Row) → first_row k rows ≡ None → drop_first (has_key k) (rows ++ started k 0 ∷ []) ≡ raise k 0 rows
started_at_zero k rows n = cancelled k (started k 0) refl rows n

pub started_above_zero : (k : Counter) (number : ℕ) (rows : List Row) → rows ++ started k (suc number) ∷ [] ≡ raise k (suc number) rows
started_above_zero k number rows = refl

-- to change a row and drop it is to drop it
pub change_dropped : (f : Row → Row) → ((row : Row) → (f row).key ≡ row.key) → (k : Counter) (rows : List Row) → drop_first (has_key k) (change_first f (has_key k) rows) ≡ drop_first (has_key k) rows
change_dropped f keeps k [] = refl
change_dropped f keeps k (r ∷ rs) = by_bool (has_key k r) (λ b. has_key k r ≡ b → drop_first (has_key k) (if b then (f r ∷ rs) else (r ∷ change_first f (has_key k) rs)) ≡ (if b then rs else (r ∷ drop_first (has_key k) rs)))
    (λ _ t. rw (ap (same_counter k) (keeps r) ∙ t) refl)
    (λ _ t. rw t (ap (λ xs. r ∷ xs) (change_dropped f keeps k rs))) refl
