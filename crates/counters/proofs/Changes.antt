-- A write at the place of a key's first row is a change of that row.
use Rattle.std.proofs.Common.{◌≡◌, ◌<◌, ℕ, true, List, [], ◌∷◌, Option, Some, None, Result, Ok, Err, OnOk, is_ok, cond, if◌then◌else◌, find, slice_set, slice_index_or, sym, ◌∙◌, ap, refl, subst, arith}
use Rattle.std.specs.Option.{is_some}
use Rattle.job_core.specs.Core.{Counter}
use Rattle.job_core.proofs.ByCases.{by_eq}
use Rattle.board_model.specs.Lists.{drop_first, change_first}
use Rattle.board_model.specs.Board.{Row, has_key, first_row, lowered, lower}
use Rattle.board_model.proofs.Kit.{by_bool}
use Rattle.job_queues.specs.Places.{IsFirst, HasNone, IsFirstPlace}
use Rattle.counters.specs.declared.counters.CounterFault.TheVariants.{Busy}
use Rattle.counters.specs.Rows.{emptied, one_less}
use Rattle.counters.specs.Faults.{start_fault}

pub first_row_is : (key : Counter) (rows : List Row) → first_row key rows ≡ find (has_key key) rows
first_row_is key [] = refl
first_row_is key (r ∷ rs) = by_bool (has_key key r) (λ b. (if b then Some r else first_row key rs) ≡ cond b (Some r) (find (has_key key) rs)) (λ e. refl) (λ e. first_row_is key rs)

pub one_less_last : (row : Row) → row.left ≡ 1 → one_less row ≡ emptied row
one_less_last row e = by_eq row.left 1 (λ b. (if b then emptied row else lowered row) ≡ emptied row) (λ _. refl) (λ n. absurd (n e))

pub one_less_more : (row : Row) → (row.left ≡ 1 → ⊥) → one_less row ≡ lowered row
one_less_more row n = by_eq row.left 1 (λ b. (if b then emptied row else lowered row) ≡ lowered row) (λ e. absurd (n e)) (λ _. refl)

-- what a search of the rows found, of the rows that it was given
module _ (key : Counter) (seen rows : List Row) (same : seen ≡ rows) where
  pub none_there : HasNone (has_key key) seen → first_row key rows ≡ None
  none_there h = ap (first_row key) (sym same) ∙ (first_row_is key seen ∙ h.value)

  pub row_there : (i : ℕ) (row : Row) → IsFirst (has_key key) seen i → row ≡ slice_index_or rows i row → first_row key rows ≡ Some row
  row_there i row h e = ap (first_row key) (sym same) ∙ (first_row_is key seen ∙ (h.value row ∙ ap Some (ap (λ xs. slice_index_or xs i row) same ∙ sym e)))

  pub busy_there : (place : Option ℕ) → IsFirstPlace (has_key key) seen place → is_some place ≡ true → Some Busy ≡ start_fault (first_row key rows)
  busy_there None h e = absurd cc
  busy_there (Some i) h e = sym (ap start_fault (ap (first_row key) (sym same) ∙ (first_row_is key seen ∙ h.value (record { key = key; left = 0; waiters = [] }))))

  pub changed_there : (f : Row → Row) (i : ℕ) (row new : Row) → IsFirst (has_key key) seen i → row ≡ slice_index_or rows i row → new ≡ f row → slice_set rows i new ≡ change_first f (has_key key) rows
  changed_there f i row new h e n = ap (slice_set rows i) (n ∙ ap f e) ∙ sym ((subst (λ xs. IsFirst (has_key key) xs i) same h).changed f row)

  -- a row above 1 is lowered, and stays
  pub lowered_there : (i : ℕ) (row new : Row) → IsFirst (has_key key) seen i → row ≡ slice_index_or rows i row → 1 < row.left → new ≡ lowered row → slice_set rows i new ≡ lower key rows
  lowered_there i row new h e more n = rw (row_there i row h e) (by_eq row.left 1 (λ b. slice_set rows i new ≡ (if b then drop_first (has_key key) rows else change_first lowered (has_key key) rows)) (λ one. absurd (omega arith)) (λ _. changed_there lowered i row new h e n))

pub on_ok : {T E P : Type 0} (r : Result T E) → is_ok r ≡ true → OnOk r P → P
on_ok (Ok x) e h = h
on_ok (Err x) e h = absurd cc
