-- The first item of a list that passes a test: what taking it out or changing it makes, by its place.
use Rattle.std.proofs.Common.{◌≡◌, ◌<◌, ◌≤◌, ℕ, suc, ◌+◌, Bool, true, false, not, List, [], ◌∷◌, Some, None, cond, if◌then◌else◌, find, length, position, slice_get, slice_index_or, slice_set, nat_lt, refl, ap, sym, ◌∙◌, arith}
use Rattle.std.specs.List.{remove, position_or_len}
use Rattle.std.specs.Option.{is_some}
use Rattle.std.proofs.lemmas.List.Folds.{find_at}
use Rattle.std.proofs.lemmas.Option.{slice_get-get_or, slice_get_past}
use borrow.Author.Tests.{ltb-true, ltb-false}
use Rattle.board_model.specs.Lists.{has, drop_first, change_first}
use Rattle.board_model.proofs.Kit.{by_bool}
use Rattle.board_model.proofs.Bridges.{has_is}
use Rattle.job_queues.specs.Places.{IsFirst, IsFirstPlace}

-- `1 + n` is `suc n`
at_next : {X : Type 0} (x : X) (xs : List X) (n : ℕ) (d : X) → slice_index_or (x ∷ xs) (1 + n) d ≡ slice_index_or xs n d
at_next x xs n d = let e : 1 + n ≡ suc n = omega arith in rw e refl

set_next : {X : Type 0} (x : X) (xs : List X) (n : ℕ) (y : X) → slice_set (x ∷ xs) (1 + n) y ≡ x ∷ slice_set xs n y
set_next x xs n y = let e : 1 + n ≡ suc n = omega arith in rw e refl

remove_next : {X : Type 0} (x : X) (xs : List X) (n : ℕ) → remove (x ∷ xs) (1 + n) ≡ x ∷ remove xs n
remove_next x xs n = let e : 1 + n ≡ suc n = omega arith in rw e refl

pub drop_first_at : {X : Type 0} (p : X → Bool) (xs : List X) → drop_first p xs ≡ remove xs (position_or_len p xs)
drop_first_at p [] = refl
drop_first_at p (x ∷ xs) = by_bool (p x) (λ b. (if b then xs else (x ∷ drop_first p xs)) ≡ remove (x ∷ xs) (cond (not b) (1 + position_or_len p xs) 0))
    (λ e. refl)
    (λ e. ap (λ l. x ∷ l) (drop_first_at p xs) ∙ sym (remove_next x xs (position_or_len p xs)))

pub change_first_at : {X : Type 0} (f : X → X) (p : X → Bool) (xs : List X) (d : X) → change_first f p xs ≡ slice_set xs (position_or_len p xs) (f (slice_index_or xs (position_or_len p xs) d))
change_first_at f p [] d = refl
change_first_at f p (x ∷ xs) d = by_bool (p x) (λ b. (if b then (f x ∷ xs) else (x ∷ change_first f p xs)) ≡ slice_set (x ∷ xs) (cond (not b) (1 + position_or_len p xs) 0) (f (slice_index_or (x ∷ xs) (cond (not b) (1 + position_or_len p xs) 0) d)))
    (λ e. refl)
    (λ e. rw (at_next x xs (position_or_len p xs) d, set_next x xs (position_or_len p xs) (f (slice_index_or xs (position_or_len p xs) d))) (ap (λ l. x ∷ l) (change_first_at f p xs d)))

pub drop_first_none : {X : Type 0} (p : X → Bool) (xs : List X) → has p xs ≡ false → drop_first p xs ≡ xs
drop_first_none p [] h = refl
drop_first_none p (x ∷ xs) h = by_bool (p x) (λ b. (if b then true else has p xs) ≡ false → (if b then xs else (x ∷ drop_first p xs)) ≡ x ∷ xs)
    (λ e g. absurd cc)
    (λ e g. ap (λ l. x ∷ l) (drop_first_none p xs g)) h

pub change_first_none : {X : Type 0} (f : X → X) (p : X → Bool) (xs : List X) → has p xs ≡ false → change_first f p xs ≡ xs
change_first_none f p [] h = refl
change_first_none f p (x ∷ xs) h = by_bool (p x) (λ b. (if b then true else has p xs) ≡ false → (if b then (f x ∷ xs) else (x ∷ change_first f p xs)) ≡ x ∷ xs)
    (λ e g. absurd cc)
    (λ e g. ap (λ l. x ∷ l) (change_first_none f p xs g)) h

found_there : {X : Type 0} (p : X → Bool) (xs : List X) → position_or_len p xs < length xs → has p xs ≡ true
found_there p [] l = absurd (omega arith)
found_there p (x ∷ xs) l = by_bool (p x) (λ b. cond (not b) (1 + position_or_len p xs) 0 < length (x ∷ xs) → (if b then true else has p xs) ≡ true) (λ e m. refl) (λ e m. found_there p xs (omega arith)) l

by_test : {X : Type 0} (p : X → Bool) (xs : List X) (b : Bool) → nat_lt (position_or_len p xs) (length xs) ≡ b → IsFirstPlace p xs (cond b (Some (position_or_len p xs)) None)
by_test p xs true e =
    let bound : position_or_len p xs < length xs = ltb-true _ _ e in
    record {
      bound = bound;
      there = found_there p xs bound;
      value = λ d. find_at p xs ∙ slice_get-get_or xs _ d bound;
      rest = drop_first_at p xs;
      changed = λ f d. change_first_at f p xs d;
    }
by_test p xs false e =
    let past : length xs ≤ position_or_len p xs = ltb-false _ _ e in
    let value : find p xs ≡ None = find_at p xs ∙ slice_get_past xs _ past in
    let absent : has p xs ≡ false = has_is p xs ∙ ap is_some value in
    record { absent = absent; value = value; rest = drop_first_none p xs absent; changed = λ f. change_first_none f p xs absent }

pub first_place_found : {X : Type 0} (p : X → Bool) (xs : List X) → IsFirstPlace p xs (position p xs)
first_place_found p xs = by_test p xs _ refl

-- the first item, where it passes
pub front_is_first : {X : Type 0} (p : X → Bool) (xs : List X) (x : X) → slice_get xs 0 ≡ Some x → p x ≡ true → IsFirst p xs 0
front_is_first p [] x e t = absurd cc
front_is_first p (y ∷ ys) x e t =
    let i : y ≡ x = cc in
    let h : p y ≡ true = ap p i ∙ t in
    record { bound = omega arith; there = rw h refl; value = λ d. rw h refl; rest = rw h refl; changed = λ f d. rw h refl }
