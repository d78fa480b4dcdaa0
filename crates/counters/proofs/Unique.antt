-- Rows that each have a key of their own: they stay so, and the one that has a key is the first that has it.
use Rattle.std.specs.List.{position_or_len, remove}
use borrow.Author.Tests.{ltb-false}
use Rattle.std.proofs.Common.{◌≡◌, ◌<◌, ◌+◌, ℕ, zero, suc, Bool, true, false, not, cond, nat_lt, List, [], ◌∷◌, ◌++◌, Option, Some, None, length, drop, position, slice_index_or, slice_set, Result, Ok, Err, OnOk, OnErr, if◌then◌else◌, refl, sym, ap, subst, ◌∙◌, arith}
use Rattle.job_core.specs.Core.{Counter}
use Rattle.board_model.specs.Lists.{has, drop_first, change_first}
use Rattle.board_model.specs.Board.{Row, same_counter, has_key, first_row}
use Rattle.board_model.proofs.Kit.{by_bool}
use Rattle.board_model.proofs.Tables.{counter_self, counter_is}
use Rattle.job_queues.specs.Places.{IsFirst, HasNone, IsFirstPlace}
use Rattle.job_queues.proofs.Places.{first_place_found}
use Rattle.counters.specs.Waiting.{IsUnique}
use Rattle.counters.proofs.Changes.{changed_there}

-- ---- no row of a key stands, and none comes

absent_here : (k : Counter) (r : Row) (rs : List Row) → first_row k (r ∷ rs) ≡ None → same_counter k r.key ≡ false
absent_here k r rs n = by_bool (same_counter k r.key) (λ b. (if b then Some r else first_row k rs) ≡ None → b ≡ false) (λ _ m. absurd cc) (λ _ _. refl) n

absent_behind : (k : Counter) (r : Row) (rs : List Row) → first_row k (r ∷ rs) ≡ None → first_row k rs ≡ None
absent_behind k r rs n = by_bool (same_counter k r.key) (λ b. (if b then Some r else first_row k rs) ≡ None → first_row k rs ≡ None) (λ _ m. absurd cc) (λ _ m. m) n

absent_both : (k : Counter) (r : Row) (rs : List Row) → same_counter k r.key ≡ false → first_row k rs ≡ None → first_row k (r ∷ rs) ≡ None
absent_both k r rs o n = rw o n

-- the test of two keys, the other way round
turned : (k l : Counter) → same_counter k l ≡ false → same_counter l k ≡ false
turned k l o = by_bool (same_counter l k) (λ b. same_counter l k ≡ b → b ≡ false) (λ _ e. let t : same_counter k l ≡ true = ap (same_counter k) (counter_is l k e) ∙ counter_self k in absurd cc) (λ _ _. refl) refl

absent_last : (k : Counter) (row : Row) (rows : List Row) → same_counter k row.key ≡ false → first_row k rows ≡ None → first_row k (rows ++ row ∷ []) ≡ None
absent_last k row [] o n = rw o refl
absent_last k row (r ∷ rs) o n = absent_both k r (rs ++ row ∷ []) (absent_here k r rs n) (absent_last k row rs o (absent_behind k r rs n))

absent_dropped : (k : Counter) (p : Row → Bool) (rows : List Row) → first_row k rows ≡ None → first_row k (drop_first p rows) ≡ None
absent_dropped k p [] n = n
absent_dropped k p (r ∷ rs) n = by_bool (p r) (λ b. first_row k (if b then rs else (r ∷ drop_first p rs)) ≡ None)
    (λ _. absent_behind k r rs n)
    (λ _. absent_both k r (drop_first p rs) (absent_here k r rs n) (absent_dropped k p rs (absent_behind k r rs n)))

module _ (f : Row → Row) (keeps : (row : Row) → (f row).key ≡ row.key) where
  absent_changed : (k : Counter) (p : Row → Bool) (rows : List Row) → first_row k rows ≡ None → first_row k (change_first f p rows) ≡ None
  absent_changed k p [] n = n
  absent_changed k p (r ∷ rs) n = by_bool (p r) (λ b. first_row k (if b then (f r ∷ rs) else (r ∷ change_first f p rs)) ≡ None)
      (λ _. absent_both k (f r) rs (ap (same_counter k) (keeps r) ∙ absent_here k r rs n) (absent_behind k r rs n))
      (λ _. absent_both k r (change_first f p rs) (absent_here k r rs n) (absent_changed k p rs (absent_behind k r rs n)))

  pub unique_changed : (p : Row → Bool) (rows : List Row) → IsUnique rows → IsUnique (change_first f p rows)
  unique_changed p [] u = u
  unique_changed p (r ∷ rs) u = by_bool (p r) (λ b. IsUnique (if b then (f r ∷ rs) else (r ∷ change_first f p rs)))
      (λ _. (ap (λ k. first_row k rs) (keeps r) ∙ u.0, u.1))
      (λ _. (absent_changed r.key p rs u.0, unique_changed p rs u.1))

-- ---- each key stands once

pub unique_last : (k : Counter) (row : Row) → row.key ≡ k → (rows : List Row) → first_row k rows ≡ None → IsUnique rows → IsUnique (rows ++ row ∷ [])
unique_last k row own [] n u = (refl, u)
unique_last k row own (r ∷ rs) n u =
    let other : same_counter r.key row.key ≡ false = ap (same_counter r.key) own ∙ turned k r.key (absent_here k r rs n) in
    (absent_last r.key row rs other u.0, unique_last k row own rs (absent_behind k r rs n) u.1)

pub unique_dropped : (p : Row → Bool) (rows : List Row) → IsUnique rows → IsUnique (drop_first p rows)
unique_dropped p [] u = u
unique_dropped p (r ∷ rs) u = by_bool (p r) (λ b. IsUnique (if b then rs else (r ∷ drop_first p rs)))
    (λ _. u.1)
    (λ _. (absent_dropped r.key p rs u.0, unique_dropped p rs u.1))

-- ---- a search from the back

pub none_behind : {X : Type 0} (p : X → Bool) (xs : List X) → has p xs ≡ false → HasNone p xs
none_behind p xs e = go (position p xs) (first_place_found p xs)
  where
    go : (o : Option ℕ) → IsFirstPlace p xs o → HasNone p xs
    go None h = h
    go (Some i) h = absurd (let t = h.there in cc)

pub one_more_behind : {X : Type 0} (p : X → Bool) (xs : List X) (i : ℕ) (x : X) → i < length xs → x ≡ slice_index_or xs i x → p x ≡ false → has p (drop (suc i) xs) ≡ false → has p (drop i xs) ≡ false
one_more_behind p [] i x l e t h = absurd (omega arith)
one_more_behind p (y ∷ ys) zero x l e t h = let s : p y ≡ false = ap p (sym e) ∙ t in rw s h
one_more_behind p (y ∷ ys) (suc i) x l e t h = one_more_behind p ys i x (omega arith) e t h

row_found : (k : Counter) (rows : List Row) (i : ℕ) (row : Row) → i < length rows → row ≡ slice_index_or rows i row → has_key k row ≡ true → first_row k rows ≡ None → ⊥
row_found k [] i row l e t n = absurd (omega arith)
row_found k (r ∷ rs) zero row l e t n = let o = absent_here k r rs n in let s : has_key k r ≡ true = ap (has_key k) (sym e) ∙ t in absurd cc
row_found k (r ∷ rs) (suc i) row l e t n = row_found k rs i row (omega arith) e t (absent_behind k r rs n)

only_place : (k : Counter) (rows : List Row) (i : ℕ) (row : Row) → IsUnique rows → i < length rows → row ≡ slice_index_or rows i row → has_key k row ≡ true → position_or_len (has_key k) rows ≡ i
only_place k [] i row u l e t = absurd (omega arith)
only_place k (r ∷ rs) zero row u l e t = let s : has_key k r ≡ true = ap (has_key k) (sym e) ∙ t in rw s refl
only_place k (r ∷ rs) (suc i) row u l e t = by_bool (has_key k r) (λ b. has_key k r ≡ b → cond (not b) (1 + position_or_len (has_key k) rs) 0 ≡ suc i)
    (λ _ s. absurd (row_found k rs i row (omega arith) e t (ap (λ key. first_row key rs) (counter_is k r.key s) ∙ u.0)))
    (λ _ _. let h = only_place k rs i row u.1 (omega arith) e t in omega arith) refl

pub first_found : (k : Counter) (rows : List Row) (i : ℕ) (row : Row) → IsUnique rows → i < length rows → row ≡ slice_index_or rows i row → has_key k row ≡ true → IsFirst (has_key k) rows i
first_found k rows i row u l e t =
    let here : position_or_len (has_key k) rows ≡ i = only_place k rows i row u l e t in
    let place : position (has_key k) rows ≡ Some i = by_bool (nat_lt (position_or_len (has_key k) rows) (length rows)) (λ b. cond b (Some (position_or_len (has_key k) rows)) None ≡ Some i) (λ _. ap Some here) (λ f. absurd (let past = ltb-false _ _ f in omega (arith, past, here, l))) in
    subst (IsFirstPlace (has_key k) rows) place (first_place_found (has_key k) rows)

-- ---- after a write of the row that a search found

pub on_ok_then : {T E P Q : Type 0} (r : Result T E) → (P → Q) → OnOk r P → OnOk r Q
on_ok_then (Ok x) f p = f p
on_ok_then (Err x) f p = p

set_same : {X : Type 0} (xs : List X) (i : ℕ) (x : X) → i < length xs → x ≡ slice_index_or xs i x → slice_set xs i x ≡ xs
set_same [] i x l e = absurd (omega arith)
set_same (y ∷ ys) zero x l e = ap (λ z. z ∷ ys) e
set_same (y ∷ ys) (suc i) x l e = ap (λ zs. y ∷ zs) (set_same ys i x (omega arith) e)

module _ (key : Counter) (seen rows : List Row) (same : seen ≡ rows) where
  pub unique_without : (i : ℕ) (rest : List Row) → IsFirst (has_key key) seen i → rest ≡ remove rows i → IsUnique rows → IsUnique rest
  unique_without i rest h e u = subst IsUnique ((subst (λ xs. IsFirst (has_key key) xs i) same h).rest ∙ sym e) (unique_dropped (has_key key) rows u)

  -- where the row was looked at through a reference that might have changed it
  pub unique_without_seen : (i : ℕ) (row : Row) (rest : List Row) → IsFirst (has_key key) seen i → row ≡ slice_index_or rows i row → rest ≡ remove (slice_set rows i row) i → IsUnique rows → IsUnique rest
  unique_without_seen i row rest h e r u = unique_without i rest h (r ∙ ap (λ xs. remove xs i) (set_same rows i row ((subst (λ xs. IsFirst (has_key key) xs i) same h).bound) e)) u

  module _ (f : Row → Row) (keeps : (row : Row) → (f row).key ≡ row.key) where
    pub unique_with : (i : ℕ) (row new : Row) → IsFirst (has_key key) seen i → row ≡ slice_index_or rows i row → new ≡ f row → IsUnique rows → IsUnique (slice_set rows i new)
    unique_with i row new h e n u = subst IsUnique (sym (changed_there key seen rows same f i row new h e n)) (unique_changed f keeps (has_key key) rows u)

  module _ (f : Row → Row) (keeps : (row : Row) → (f row).key ≡ row.key) where
    pub unique_if : {T E : Type 0} (i : ℕ) (row new : Row) → IsFirst (has_key key) seen i → row ≡ slice_index_or rows i row → (r : Result T E) → OnOk r (new ≡ f row) → OnErr r (new ≡ row) → IsUnique rows → IsUnique (slice_set rows i new)
    unique_if i row new h e (Ok x) o _ u = unique_with f keeps i row new h e o u
    unique_if i row new h e (Err x) _ n u = unique_with (λ r. r) (λ r. refl) i row new h e n u
