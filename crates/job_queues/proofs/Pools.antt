-- The pool's table: its front, and what is free there.
use Rattle.std.proofs.Common.{◌≡◌, ◌<◌, ◌≤◌, ℕ, zero, suc, ◌+◌, Bool, true, false, not, List, [], ◌∷◌, length, take, drop, slice_get, slice_index_or, slice_set, replicate, cond, position, nat_lt, Option, Some, None, refl, sym, ap, subst, ◌∙◌, arith}
use Rattle.std.specs.List.{position_or_len}
use Rattle.std.proofs.lemmas.List.{take-replicate}
use Rattle.std.proofs.Math.Seq.{take-set-lt}
use Rattle.board_model.specs.Lists.{tally, write, first_place}
use Rattle.board_model.proofs.Kit.{by_bool, has_none, tally_not}
use Rattle.board_model.proofs.Bridges.{write_is, place_is}
use Rattle.job_queues.specs.Places.{IsFirstPlace}
use Rattle.job_queues.proofs.Places.{first_place_found}

pub front_write : {X : Type 0} (n : ℕ) (xs : List X) (i : ℕ) (x : X) → i < n → take n (slice_set xs i x) ≡ write (take n xs) i x
front_write n xs i x l = take-set-lt n xs i x l ∙ sym (write_is (take n xs) i x)

pub front_replicate : {X : Type 0} (m n : ℕ) (x : X) → m ≤ n → take m (replicate n x) ≡ replicate m x
front_replicate m n x l = take-replicate m n x l

pub front_get : {X : Type 0} (n : ℕ) (xs : List X) (i : ℕ) (d : X) → i < n → i < length xs → slice_get (take n xs) i ≡ Some (slice_index_or xs i d)
front_get zero xs i d l m = absurd (omega arith)
front_get (suc n) [] i d l m = absurd (omega arith)
front_get (suc n) (x ∷ xs) zero d l m = refl
front_get (suc n) (x ∷ xs) (suc i) d l m = front_get n xs i d (omega arith) (omega arith)

-- where no place was found nothing passes
pub none_passes : {X : Type 0} (p : X → Bool) (xs : List X) → None ≡ position p xs → tally p xs ≡ 0
none_passes p xs e = go (position p xs) (first_place_found p xs) (sym e)
  where
    go : (o : Option ℕ) → IsFirstPlace p xs o → o ≡ None → tally p xs ≡ 0
    go None h n = has_none p xs h.absent
    go (Some i) h n = absurd cc

pub first_found : {X : Type 0} (p : X → Bool) (xs : List X) (i : ℕ) → Some i ≡ position p xs → i ≡ first_place p xs
first_found p xs i e = by_bool (nat_lt (position_or_len p xs) (length xs)) (λ b. Some i ≡ cond b (Some (position_or_len p xs)) None → i ≡ first_place p xs) (λ t d. let same : i ≡ position_or_len p xs = cc in same ∙ sym (place_is p xs)) (λ t d. absurd cc) e

pub all_free : (n : ℕ) → tally not (replicate n false) ≡ n
all_free zero = refl
all_free (suc n) = let h = all_free n in omega arith

-- ---- the two parts of a table that is written at one place

pub take_write : (n : ℕ) (xs : List Bool) (i : ℕ) (b : Bool) → i < n → take n (write xs i b) ≡ write (take n xs) i b
take_write zero xs i b l = absurd (omega arith)
take_write (suc n) [] i b l = refl
take_write (suc n) (x ∷ xs) zero b l = refl
take_write (suc n) (x ∷ xs) (suc i) b l = ap (λ ys. x ∷ ys) (take_write n xs i b (omega arith))

pub take_write_past : (n : ℕ) (xs : List Bool) (i : ℕ) (b : Bool) → n ≤ i → take n (write xs i b) ≡ take n xs
take_write_past zero xs i b l = refl
take_write_past (suc n) [] i b l = refl
take_write_past (suc n) (x ∷ xs) zero b l = absurd (omega arith)
take_write_past (suc n) (x ∷ xs) (suc i) b l = ap (λ ys. x ∷ ys) (take_write_past n xs i b (omega arith))

pub drop_write_before : (n : ℕ) (xs : List Bool) (i : ℕ) (b : Bool) → i < n → drop n (write xs i b) ≡ drop n xs
drop_write_before zero xs i b l = absurd (omega arith)
drop_write_before (suc n) [] i b l = refl
drop_write_before (suc n) (x ∷ xs) zero b l = refl
drop_write_before (suc n) (x ∷ xs) (suc i) b l = drop_write_before n xs i b (omega arith)

pub drop_write : (n : ℕ) (xs : List Bool) (i j : ℕ) (b : Bool) → j ≡ n + i → drop n (write xs j b) ≡ write (drop n xs) i b
drop_write zero xs i j b e = let d : j ≡ i = omega arith in ap (λ k. write xs k b) d
drop_write (suc n) [] i j b e = refl
drop_write (suc n) (x ∷ xs) i zero b e = absurd (omega arith)
drop_write (suc n) (x ∷ xs) i (suc j) b e = drop_write n xs i j b (omega arith)

pub get_in_front : (n : ℕ) (xs : List Bool) (i : ℕ) → i < n → slice_get (take n xs) i ≡ slice_get xs i
get_in_front zero xs i l = absurd (omega arith)
get_in_front (suc n) [] i l = refl
get_in_front (suc n) (x ∷ xs) zero l = refl
get_in_front (suc n) (x ∷ xs) (suc i) l = get_in_front n xs i (omega arith)

pub get_behind : (n : ℕ) (xs : List Bool) (i j : ℕ) → j ≡ n + i → slice_get (drop n xs) i ≡ slice_get xs j
get_behind zero xs i j e = let d : i ≡ j = omega arith in ap (slice_get xs) d
get_behind (suc n) [] i j e = refl
get_behind (suc n) (x ∷ xs) i zero e = absurd (omega arith)
get_behind (suc n) (x ∷ xs) i (suc j) e = get_behind n xs i j (omega arith)

pub all_free_small : (n m : ℕ) → tally not (take n (replicate (n + m) false)) ≡ n
all_free_small zero m = refl
all_free_small (suc n) m = let h = all_free_small n m in let e : suc n + m ≡ suc (n + m) = omega arith in rw e (omega (arith, h))

pub all_free_large : (n m : ℕ) → tally not (drop n (replicate (n + m) false)) ≡ m
all_free_large zero m = let e : 0 + m ≡ m = omega arith in rw e (all_free m)
all_free_large (suc n) m = let e : suc n + m ≡ suc (n + m) = omega arith in rw e (all_free_large n m)

-- ---- how many are free

pub few_pass : {X : Type 0} (p : X → Bool) (xs : List X) → tally p xs ≤ length xs
few_pass p xs = let h = tally_not p xs in omega arith

-- the lowest free fiber is taken
lowest_less : (xs : List Bool) → first_place not xs < length xs → tally not xs ≡ suc (tally not (write xs (first_place not xs) true))
lowest_less [] l = absurd (omega arith)
lowest_less (true ∷ xs) l = let h = lowest_less xs (omega arith) in omega arith
lowest_less (false ∷ xs) l = omega arith

pub one_less : (xs : List Bool) (i : ℕ) → Some i ≡ position not xs → i < length xs → tally not xs ≡ suc (tally not (write xs i true))
one_less xs i e = subst (λ n. n < length xs → tally not xs ≡ suc (tally not (write xs n true))) (sym (first_found not xs i e)) (lowest_less xs)

-- a taken fiber is given back
pub one_more : (xs : List Bool) (i : ℕ) → slice_get xs i ≡ Some true → tally not (write xs i false) ≡ suc (tally not xs)
one_more [] i e = absurd cc
one_more (true ∷ xs) zero e = omega arith
one_more (false ∷ xs) zero e = absurd cc
one_more (x ∷ xs) (suc i) e = let h = one_more xs i e in omega arith
