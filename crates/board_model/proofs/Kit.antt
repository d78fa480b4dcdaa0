-- Lists and tables.
use Rattle.std.proofs.Common.{◌≡◌, ◌<◌, ℕ, zero, suc, ◌+◌, Bool, true, false, not, List, [], ◌∷◌, ◌++◌, Option, Some, length, map, if◌then◌else◌, refl, ap, arith}
use Rattle.board_model.specs.Lists.{bit, tally, at, write, has, drop_first, first_place, Priority, High, Normal, Low, Three, all, add, take_from}

pub by_bool : (b : Bool) (P : Bool → Type 0) → (b ≡ true → P true) → (b ≡ false → P false) → P b
by_bool true P t f = t refl
by_bool false P t f = f refl

pub tally_append : {X : Type 0} (p : X → Bool) (xs ys : List X) → tally p (xs ++ ys) ≡ tally p xs + tally p ys
tally_append p [] ys = omega arith
tally_append p (x ∷ xs) ys = let h = tally_append p xs ys in omega arith

pub length_write : {X : Type 0} (xs : List X) (i : ℕ) (y : X) → length (write xs i y) ≡ length xs
length_write [] i y = refl
length_write (x ∷ xs) zero y = refl
length_write (x ∷ xs) (suc i) y = let h = length_write xs i y in omega arith

pub at_here : {X : Type 0} (xs : List (Option X)) (i : ℕ) (y : Option X) → i < length xs → at (write xs i y) i ≡ y
at_here [] i y l = absurd (omega arith)
at_here (x ∷ xs) zero y l = refl
at_here (x ∷ xs) (suc i) y l = at_here xs i y (omega arith)

pub at_other : {X : Type 0} (xs : List (Option X)) (i k : ℕ) (y : Option X) → (k ≡ i → ⊥) → at (write xs i y) k ≡ at xs k
at_other (x ∷ xs) zero zero y n = absurd (n refl)
at_other (x ∷ xs) (suc i) (suc k) y n = at_other xs i k y (λ e. n (ap suc e))
at_other _ _ _ y n = refl

pub at_some : {X : Type 0} (xs : List (Option X)) (i : ℕ) (x : X) → at xs i ≡ Some x → i < length xs
at_some [] i x e = absurd cc
at_some (y ∷ ys) zero x e = omega arith
at_some (y ∷ ys) (suc i) x e = let h = at_some ys i x e in omega arith

pub tally_write : {X : Type 0} (p : Option X → Bool) (xs : List (Option X)) (i : ℕ) (y : Option X) → i < length xs → tally p (write xs i y) + bit (p (at xs i)) ≡ tally p xs + bit (p y)
tally_write p [] i y l = absurd (omega arith)
tally_write p (x ∷ xs) zero y l = omega arith
tally_write p (x ∷ xs) (suc i) y l = let h = tally_write p xs i y (omega arith) in omega arith

pub tally_at : {X : Type 0} (p : Option X → Bool) (xs : List (Option X)) (i : ℕ) → i < length xs → p (at xs i) ≡ true → 0 < tally p xs
tally_at p [] i l e = absurd (omega arith)
tally_at p (x ∷ xs) zero l e = let b : bit (p x) ≡ 1 = ap bit e in omega arith
tally_at p (x ∷ xs) (suc i) l e = let h = tally_at p xs i (omega arith) e in omega arith

pub map_write : {X Y : Type 0} (f : X → Y) (xs : List X) (i : ℕ) (y : X) → map f (write xs i y) ≡ write (map f xs) i (f y)
map_write f [] i y = refl
map_write f (x ∷ xs) zero y = refl
map_write f (x ∷ xs) (suc i) y = ap (λ l. f x ∷ l) (map_write f xs i y)

pub place_map : {X Y : Type 0} (p : Y → Bool) (f : X → Y) (xs : List X) → first_place p (map f xs) ≡ first_place (λ x. p (f x)) xs
place_map p f [] = refl
place_map p f (x ∷ xs) = ap (λ n. if p (f x) then 0 else suc n) (place_map p f xs)

abbrev pub IsPlace : {X : Type 0} → (Option X → Bool) → List (Option X) → ℕ → Type 0
IsPlace p xs i = (i < length xs) × (p (at xs i) ≡ true)

-- where some item passes, the first place has one
pub place_found : {X : Type 0} (p : Option X → Bool) (xs : List (Option X)) → 0 < tally p xs → IsPlace p xs (first_place p xs)
place_found p [] l = absurd (omega arith)
place_found p (x ∷ xs) l = by_bool (p x) (λ b. IsPlace p (x ∷ xs) (if b then 0 else suc (first_place p xs)))
    (λ e. (omega arith, e))
    (λ e. let z : bit (p x) ≡ 0 = ap bit e in let h = place_found p xs (omega arith) in (omega (arith, h.0), h.1))

-- what does not pass, and what does
pub tally_not : {X : Type 0} (p : X → Bool) (xs : List X) → tally (λ x. not (p x)) xs + tally p xs ≡ length xs
tally_not p [] = refl
tally_not p (x ∷ xs) =
    let h = tally_not p xs in
    let e : bit (not (p x)) + bit (p x) ≡ 1 = by_bool (p x) (λ b. bit (not b) + bit b ≡ 1) (λ e. refl) (λ e. refl) in
    omega arith

pub drop_tally : {X : Type 0} (q p : X → Bool) (x : X) → ((y : X) → p y ≡ true → y ≡ x) → (xs : List X) → has p xs ≡ true → tally q (drop_first p xs) + bit (q x) ≡ tally q xs
drop_tally q p x u [] s = absurd cc
drop_tally q p x u (y ∷ ys) s = by_bool (p y) (λ b. (if b then true else has p ys) ≡ true → tally q (if b then ys else (y ∷ drop_first p ys)) + bit (q x) ≡ bit (q y) + tally q ys)
    (λ e t. let d : bit (q y) ≡ bit (q x) = ap (λ z. bit (q z)) (u y e) in omega arith)
    (λ e t. let h = drop_tally q p x u ys t in omega arith) s

pub has_none : {X : Type 0} (p : X → Bool) (xs : List X) → has p xs ≡ false → tally p xs ≡ 0
has_none p [] s = refl
has_none p (y ∷ ys) s = by_bool (p y) (λ b. (if b then true else has p ys) ≡ false → bit b + tally p ys ≡ 0)
    (λ e t. absurd cc)
    (λ e t. let h = has_none p ys t in omega arith) s

-- the tallies of three lists
pub all_parts : {X : Type 0} (q : X → Bool) (t : Three X) → tally q (all t) ≡ tally q t.high + (tally q t.normal + tally q t.low)
all_parts q t = let a = tally_append q t.high (t.normal ++ t.low) in let b = tally_append q t.normal t.low in omega arith

pub all_add : {X : Type 0} (q : X → Bool) (r : Priority) (x : X) (t : Three X) → tally q (all (add r x t)) ≡ tally q (all t) + bit (q x)
all_add q High x t = let a = all_parts q t in let b = all_parts q (add High x t) in let c = tally_append q t.high (x ∷ []) in omega arith
all_add q Normal x t = let a = all_parts q t in let b = all_parts q (add Normal x t) in let c = tally_append q t.normal (x ∷ []) in omega arith
all_add q Low x t = let a = all_parts q t in let b = all_parts q (add Low x t) in let c = tally_append q t.low (x ∷ []) in omega arith

-- what is left of three lists, by which of the first two has what is taken
abbrev pub taken_by : {X : Type 0} → (X → Bool) → Three X → Bool → Bool → Three X
taken_by p t a b =
    if a then record { high = drop_first p t.high; normal = t.normal; low = t.low }
    else (if b then record { high = t.high; normal = drop_first p t.normal; low = t.low }
    else record { high = t.high; normal = t.normal; low = drop_first p t.low })

pub all_take : {X : Type 0} (q p : X → Bool) (x : X) → ((y : X) → p y ≡ true → y ≡ x) → (t : Three X) → 0 < tally p (all t) → tally q (all (take_from p t)) + bit (q x) ≡ tally q (all t)
all_take {X} q p x u t l =
    let w = all_parts q t in
    let v = all_parts p t in
    by_bool (has p t.high) (λ b. tally q (all (taken_by p t b (has p t.normal))) + bit (q x) ≡ tally q (all t))
    (λ e. let d = drop_tally q p x u t.high e in let a = all_parts q (record t { high = drop_first p t.high }) in omega arith)
    (λ e. by_bool (has p t.normal) (λ b. tally q (all (taken_by p t false b)) + bit (q x) ≡ tally q (all t))
    (λ f. let d = drop_tally q p x u t.normal f in let a = all_parts q (record t { normal = drop_first p t.normal }) in omega arith)
    (λ f. by_bool (has p t.low) (λ b. has p t.low ≡ b → tally q (all (taken_by p t false false)) + bit (q x) ≡ tally q (all t))
    (λ g h. let d = drop_tally q p x u t.low g in let a = all_parts q (record t { low = drop_first p t.low }) in omega arith)
    (λ g h. let y = has_none p t.high e in let z = has_none p t.normal f in let n = has_none p t.low g in absurd (omega arith)) refl))

pub tally_map : {X Y : Type 0} (p : Y → Bool) (f : X → Y) (xs : List X) → tally p (map f xs) ≡ tally (λ x. p (f x)) xs
tally_map p f [] = refl
tally_map p f (x ∷ xs) = let h = tally_map p f xs in omega arith
