-- The fibers of each size: how many of them are free, and the lowest one.
use Rattle.std.proofs.Common.{◌≡◌, ◌≤◌, ◌<◌, ℕ, zero, suc, ◌+◌, not, List, [], ◌∷◌, Option, Some, None, length, map, take, drop, refl, sym, subst, arith}
use Rattle.job_core.specs.declared.names.Size.{Size}
use Rattle.job_core.specs.declared.names.Size.TheVariants.{Small, Large}
use Rattle.job_core.specs.Core.{size_of}
use Rattle.board_model.specs.Lists.{bit, tally, at, first_place}
use Rattle.board_model.specs.Board.{Held, is_taken}
use Rattle.board_model.specs.Law.{same_size, is_of, size_at, IsPlaced}

abbrev pub ArePlaced : ℕ → List (Option Held) → Type 0
ArePlaced n os = (f : ℕ) → IsPlaced (size_at n f) (at os f)

of_size : (z y : Size) → y ≡ z → bit (same_size z y) ≡ 1
of_size z y e = subst (λ x. bit (same_size z x) ≡ 1) (sym e) (own z)
  where
    own : (z : Size) → bit (same_size z z) ≡ 1
    own Small = refl
    own Large = refl

other_size : (h : Held) → Large ≡ size_of h.job → bit (is_of Small (Some h)) ≡ 0
other_size h e = subst (λ x. bit (same_size Small x) ≡ 0) e refl

small_size : (h : Held) → Small ≡ size_of h.job → bit (is_of Large (Some h)) ≡ 0
small_size h e = subst (λ x. bit (same_size Large x) ≡ 0) e refl

-- ---- where no fiber is small

none_small : (os : List (Option Held)) → ArePlaced 0 os → tally (is_of Small) os ≡ 0
none_small [] h = refl
none_small (None ∷ os) h = let r = none_small os (λ f. h (suc f)) in omega arith
none_small (Some x ∷ os) h = let r = none_small os (λ f. h (suc f)) in let e = other_size x (h 0) in omega arith

all_large : (os : List (Option Held)) → ArePlaced 0 os → tally not (map is_taken os) + tally (is_of Large) os ≡ length os
all_large [] h = refl
all_large (None ∷ os) h = let r = all_large os (λ f. h (suc f)) in omega arith
all_large (Some x ∷ os) h = let r = all_large os (λ f. h (suc f)) in let e = of_size Large (size_of x.job) (sym (h 0)) in omega arith

-- ---- how many are free

pub free_small : (n : ℕ) (os : List (Option Held)) → n ≤ length os → ArePlaced n os → tally not (take n (map is_taken os)) + tally (is_of Small) os ≡ n
free_small zero os l h = let r = none_small os h in omega arith
free_small (suc n) [] l h = absurd (omega arith)
free_small (suc n) (None ∷ os) l h = let r = free_small n os (omega arith) (λ f. h (suc f)) in omega arith
free_small (suc n) (Some x ∷ os) l h = let r = free_small n os (omega arith) (λ f. h (suc f)) in let e = of_size Small (size_of x.job) (sym (h 0)) in omega arith

pub free_large : (n : ℕ) (os : List (Option Held)) → n ≤ length os → ArePlaced n os → tally not (drop n (map is_taken os)) + tally (is_of Large) os + n ≡ length os
free_large zero os l h = let r = all_large os h in omega arith
free_large (suc n) [] l h = absurd (omega arith)
free_large (suc n) (None ∷ os) l h = let r = free_large n os (omega arith) (λ f. h (suc f)) in omega arith
free_large (suc n) (Some x ∷ os) l h = let r = free_large n os (omega arith) (λ f. h (suc f)) in let e = small_size x (h 0) in omega arith

-- ---- the lowest free one

-- an entry that holds no job, of this size
abbrev pub IsFreeAt : ℕ → List (Option Held) → Size → ℕ → Type 0
IsFreeAt n os z i = (i < length os) × (at os i ≡ None) × (size_at n i ≡ z)

pub lowest_small : (n : ℕ) (os : List (Option Held)) → 0 < tally not (take n (map is_taken os)) → IsFreeAt n os Small (first_place not (take n (map is_taken os)))
lowest_small zero os l = absurd (omega arith)
lowest_small (suc n) [] l = absurd (omega arith)
lowest_small (suc n) (None ∷ os) l = (omega arith, refl, refl)
lowest_small (suc n) (Some x ∷ os) l = let r = lowest_small n os (omega arith) in (omega (arith, r.0), r.1, r.2)

lowest_of_all : (os : List (Option Held)) → 0 < tally not (map is_taken os) → IsFreeAt 0 os Large (first_place not (map is_taken os))
lowest_of_all [] l = absurd (omega arith)
lowest_of_all (None ∷ os) l = (omega arith, refl, refl)
lowest_of_all (Some x ∷ os) l = let r = lowest_of_all os (omega arith) in (omega (arith, r.0), r.1, refl)

pub lowest_large : (n : ℕ) (os : List (Option Held)) → 0 < tally not (drop n (map is_taken os)) → IsFreeAt n os Large (n + first_place not (drop n (map is_taken os)))
lowest_large zero os l =
    let e : first_place not (map is_taken os) ≡ 0 + first_place not (map is_taken os) = omega arith in
    subst (IsFreeAt 0 os Large) e (lowest_of_all os l)
lowest_large (suc n) [] l = absurd (omega arith)
lowest_large (suc n) (o ∷ os) l =
    let r = lowest_large n os l in
    let e : suc (n + first_place not (drop n (map is_taken os))) ≡ suc n + first_place not (drop n (map is_taken os)) = omega arith in
    subst (IsFreeAt (suc n) (o ∷ os) Large) e (omega (arith, r.0), r.1, r.2)
