-- The lists' words in terms of std's, which the code's contracts use.
use Rattle.std.proofs.Common.{◌≡◌, ℕ, zero, suc, ◌+◌, Bool, true, not, nat_lt, List, [], ◌∷◌, Option, Some, None, cond, find, map, slice_get, slice_set, unwrap_or, if◌then◌else◌, refl, ap, ap₂, arith}
use Rattle.std.specs.List.{All, insert, position_or_len, range_with_len}
use Rattle.std.specs.Option.{is_some}
use Rattle.board_model.specs.Lists.{at, write, has, first_place}
use Rattle.board_model.specs.Stored.{Part, part, put_in}
use Rattle.board_model.proofs.Kit.{by_bool}

pub at_is : {X : Type 0} (xs : List (Option X)) (i : ℕ) → at xs i ≡ unwrap_or (slice_get xs i) None
at_is [] i = refl
at_is (x ∷ xs) zero = refl
at_is (x ∷ xs) (suc i) = at_is xs i

pub write_is : {X : Type 0} (xs : List X) (i : ℕ) (y : X) → write xs i y ≡ slice_set xs i y
write_is [] i y = refl
write_is (x ∷ xs) zero y = refl
write_is (x ∷ xs) (suc i) y = ap (λ l. x ∷ l) (write_is xs i y)

pub has_is : {X : Type 0} (p : X → Bool) (xs : List X) → has p xs ≡ is_some (find p xs)
has_is p [] = refl
has_is p (x ∷ xs) = by_bool (p x) (λ b. (if b then true else has p xs) ≡ is_some (cond b (Some x) (find p xs))) (λ e. refl) (λ e. has_is p xs)

pub place_is : {X : Type 0} (p : X → Bool) (xs : List X) → first_place p xs ≡ position_or_len p xs
place_is p [] = refl
place_is p (x ∷ xs) = by_bool (p x) (λ b. (if b then 0 else suc (first_place p xs)) ≡ cond (not b) (1 + position_or_len p xs) 0) (λ e. refl) (λ e. let h = place_is p xs in omega arith)

-- where a part is put in, as the code finds the place and inserts
pub put_in_is : {X : Type 0} (name : X → Part) (y : X) (xs : List X) → put_in (name y) (map name xs) ≡ map name (insert xs (position_or_len (λ x. nat_lt (name y).number (name x).number) xs) y)
put_in_is name y [] = refl
put_in_is name y (x ∷ xs) = by_bool (nat_lt (name y).number (name x).number) (λ b. (if b then (name y ∷ name x ∷ map name xs) else (name x ∷ put_in (name y) (map name xs))) ≡ map name (insert (x ∷ xs) (cond (not b) (1 + position_or_len (λ x. nat_lt (name y).number (name x).number) xs) 0) y))
    (λ e. refl)
    (λ e. let s : 1 + position_or_len (λ x. nat_lt (name y).number (name x).number) xs ≡ suc (position_or_len (λ x. nat_lt (name y).number (name x).number) xs) = omega arith in rw s (ap (λ l. name x ∷ l) (put_in_is name y xs)))

-- items that are named as all parts of a frame, where an item is settled by its name
pub parts_named : {X : Type 0} (name : X → Part) (make : ℕ → X) (f a n : ℕ) (xs : List X) → All (λ x. (i : ℕ) → name x ≡ part f i → x ≡ make i) xs → map name xs ≡ map (part f) (range_with_len a n) → xs ≡ map make (range_with_len a n)
parts_named name make f a zero [] h e = refl
parts_named name make f a zero (x ∷ xs) h e = absurd cc
parts_named name make f a (suc n) [] h e = absurd cc
parts_named name make f a (suc n) (x ∷ xs) h e =
    let one : name x ≡ part f a = cc in
    let rest : map name xs ≡ map (part f) (range_with_len (a + 1) n) = cc in
    ap₂ (λ y l. y ∷ l) (h 0 x (omega arith) a one) (parts_named name make f (a + 1) n xs (λ k d l. h (suc k) d (omega arith)) rest)
