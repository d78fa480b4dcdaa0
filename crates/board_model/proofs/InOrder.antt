-- The parts of a frame that are done, in the order of their numbers: where one more is put in, where none is, and where all are.
use Rattle.std.proofs.Common.{◌≡◌, ◌≤◌, ◌<◌, ℕ, zero, suc, ◌+◌, Bool, true, false, ◌==◌, List, [], ◌∷◌, ◌++◌, if◌then◌else◌, length, map, refl, sym, ap, ap₂, ◌∙◌, subst, ⊎_elim, arith}
use Rattle.std.specs.List.{range_with_len}
use Rattle.std.proofs.lemmas.Bool.{cases_eq}
use Rattle.std.proofs.lemmas.List.FromFn.{map-range_with_len_more}
use Rattle.job_core.proofs.ByCases.{by_eq, by_lt}
use Rattle.board_model.specs.Lists.{has}
use Rattle.board_model.specs.Stored.{Part, part, parts, put_in}

-- one part, or none
abbrev pub single : ℕ → Part → List Part
single zero p = []
single (suc n) p = p ∷ []

-- the parts of the first n numbers that are marked
abbrev pub among : ℕ → ℕ → (ℕ → ℕ) → List Part
among f zero mark = []
among f (suc n) mark = among f n mark ++ single (mark n) (part f n)

append_nil : (xs : List Part) → xs ++ [] ≡ xs
append_nil [] = refl
append_nil (x ∷ xs) = ap (λ l. x ∷ l) (append_nil xs)

pub among_same : (f n : ℕ) (d e : ℕ → ℕ) → ((k : ℕ) → k < n → d k ≡ e k) → among f n d ≡ among f n e
among_same f zero d e h = refl
among_same f (suc n) d e h = ap₂ (λ x y. x ++ single y (part f n)) (among_same f n d e (λ k l. h k (omega arith))) (h n (omega arith))

pub among_none : (f n : ℕ) (e : ℕ → ℕ) → ((k : ℕ) → k < n → e k ≡ 0) → among f n e ≡ []
among_none f zero e h = refl
among_none f (suc n) e h = ap₂ (λ x y. x ++ single y (part f n)) (among_none f n e (λ k l. h k (omega arith))) (h n (omega arith))

pub among_all : (f n : ℕ) (e : ℕ → ℕ) → ((k : ℕ) → k < n → e k ≡ 1) → among f n e ≡ parts f n
among_all f zero e h = refl
among_all f (suc n) e h =
    let more : map (part f) (range_with_len 0 (suc n)) ≡ map (part f) (range_with_len 0 n) ++ part f n ∷ [] = subst (λ m. map (part f) (range_with_len 0 m) ≡ map (part f) (range_with_len 0 n) ++ part f n ∷ []) next (map-range_with_len_more (part f) 0 n n (omega arith)) in
    ap₂ (λ x y. x ++ single y (part f n)) (among_all f n e (λ k l. h k (omega arith))) (h n (omega arith)) ∙ sym more
  where
    next : n + 1 ≡ suc n
    next = omega arith

-- ---- a part is put in

-- all numbers are below n
abbrev AreBelow : ℕ → List Part → Type 0
AreBelow n [] = Unit {0}
AreBelow n (p ∷ ps) = (p.number < n) × AreBelow n ps

below_append : (n : ℕ) (xs ys : List Part) → AreBelow n xs → AreBelow n ys → AreBelow n (xs ++ ys)
below_append n [] ys h k = k
below_append n (x ∷ xs) ys h k = (h.0, below_append n xs ys h.1 k)

below_single : (a f n m : ℕ) → n < a → AreBelow a (single m (part f n))
below_single a f n zero l = tt
below_single a f n (suc m) l = (l, tt)

among_below : (a f n : ℕ) (e : ℕ → ℕ) → n ≤ a → AreBelow a (among f n e)
among_below a f zero e l = tt
among_below a f (suc n) e l = below_append a (among f n e) (single (e n) (part f n)) (among_below a f n e (omega arith)) (below_single a f n (e n) l)

put_last : (f a : ℕ) (ps : List Part) → AreBelow a ps → put_in (part f a) ps ≡ ps ++ part f a ∷ []
put_last f a [] h = refl
put_last f a (p ∷ ps) h = by_lt a p.number (λ b. (if b then (part f a ∷ p ∷ ps) else (p ∷ put_in (part f a) ps)) ≡ p ∷ (ps ++ part f a ∷ []))
    (λ l. absurd (omega (arith, h.0)))
    (λ l. ap (λ x. p ∷ x) (put_last f a ps h.1))

put_before : (f a n : ℕ) (ps : List Part) → a < n → put_in (part f a) (ps ++ part f n ∷ []) ≡ put_in (part f a) ps ++ part f n ∷ []
put_before f a n [] l = by_lt a n (λ b. (if b then (part f a ∷ part f n ∷ []) else (part f n ∷ part f a ∷ [])) ≡ part f a ∷ part f n ∷ []) (λ m. refl) (λ m. absurd (omega arith))
put_before f a n (p ∷ ps) l = by_lt a p.number (λ b. (if b then (part f a ∷ p ∷ (ps ++ part f n ∷ [])) else (p ∷ put_in (part f a) (ps ++ part f n ∷ []))) ≡ (if b then (part f a ∷ p ∷ ps) else (p ∷ put_in (part f a) ps)) ++ part f n ∷ [])
    (λ m. refl)
    (λ m. ap (λ x. p ∷ x) (put_before f a n ps l))

put_single : (f a n m : ℕ) (ps : List Part) → a < n → put_in (part f a) (ps ++ single m (part f n)) ≡ put_in (part f a) ps ++ single m (part f n)
put_single f a n zero ps l = ap (put_in (part f a)) (append_nil ps) ∙ sym (append_nil (put_in (part f a) ps))
put_single f a n (suc m) ps l = put_before f a n ps l

last_more : (f n a : ℕ) (d e : ℕ → ℕ) → a ≡ n → e a ≡ 0 → d a ≡ 1 → ((k : ℕ) → k < n → (k ≡ a → ⊥) → d k ≡ e k) → put_in (part f a) (among f n e ++ single (e n) (part f n)) ≡ among f n d ++ single (d n) (part f n)
last_more f n a d e q z o h =
    let none : e n ≡ 0 = ap e (sym q) ∙ z in
    let one : d n ≡ 1 = ap d (sym q) ∙ o in
    ap (λ y. put_in (part f a) (among f n e ++ single y (part f n))) none
    ∙ (ap (put_in (part f a)) (append_nil (among f n e))
    ∙ (put_last f a (among f n e) (among_below a f n e (omega arith))
    ∙ (ap₂ (λ x y. x ++ part f y ∷ []) (among_same f n e d (λ k m. sym (h k m (λ c. omega arith)))) q
    ∙ ap (λ y. among f n d ++ single y (part f n)) (sym one))))

-- one more is marked
pub among_more : (f n a : ℕ) (d e : ℕ → ℕ) → a < n → e a ≡ 0 → d a ≡ 1 → ((k : ℕ) → k < n → (k ≡ a → ⊥) → d k ≡ e k) → put_in (part f a) (among f n e) ≡ among f n d
among_more f zero a d e l z o h = absurd (omega arith)
among_more f (suc n) a d e l z o h = ⊎_elim
    (λ q. last_more f n a d e q z o (λ k m c. h k (omega arith) c))
    (λ ne. put_single f a n (e n) (among f n e) (omega arith)
    ∙ ap₂ (λ x y. x ++ single y (part f n)) (among_more f n a d e (omega arith) z o (λ k m c. h k (omega arith) c)) (sym (h n (omega arith) (λ c. ne (sym c)))))
    (cases_eq a n)

-- ---- a part that isn't there

has_append : (q : Part → Bool) (xs ys : List Part) → has q xs ≡ false → has q ys ≡ false → has q (xs ++ ys) ≡ false
has_append q [] ys h k = k
has_append q (x ∷ xs) ys h k = go (q x) h (λ e. has_append q xs ys e k)
  where
    go : (b : Bool) → (if b then true else has q xs) ≡ false → (has q xs ≡ false → has q (xs ++ ys) ≡ false) → (if b then true else has q (xs ++ ys)) ≡ false
    go true e r = absurd cc
    go false e r = r e

pub among_missing : (f n a : ℕ) (e : ℕ → ℕ) → e a ≡ 0 → has (λ p. p.number == a) (among f n e) ≡ false
among_missing f zero a e z = refl
among_missing f (suc n) a e z = has_append (λ p. p.number == a) (among f n e) (single (e n) (part f n)) (among_missing f n a e z) (one (e n) refl)
  where
    one : (m : ℕ) → e n ≡ m → has (λ p. p.number == a) (single m (part f n)) ≡ false
    one zero q = refl
    one (suc m) q = by_eq n a (λ b. (if b then true else false) ≡ false) (λ d. let x : e n ≡ 0 = ap e d ∙ z in absurd (omega arith)) (λ d. refl)

-- ---- how many there are

single_adds : (ps : List Part) (m : ℕ) (p : Part) → length (ps ++ single m p) ≤ suc (length ps)
single_adds [] zero p = omega arith
single_adds [] (suc m) p = omega arith
single_adds (q ∷ ps) m p = let h = single_adds ps m p in omega arith

among_within : (f n : ℕ) (e : ℕ → ℕ) → length (among f n e) ≤ n
among_within f zero e = omega arith
among_within f (suc n) e = let h = among_within f n e in let one = single_adds (among f n e) (e n) (part f n) in omega arith

pub among_short : (f n a : ℕ) (e : ℕ → ℕ) → a < n → e a ≡ 0 → length (among f n e) < n
among_short f zero a e l z = absurd (omega arith)
among_short f (suc n) a e l z = ⊎_elim
    (λ q. let none : e n ≡ 0 = ap e (sym q) ∙ z in
    let short = among_within f n e in
    let same : length (among f n e ++ single (e n) (part f n)) ≡ length (among f n e) = ap (λ m. length (among f n e ++ single m (part f n))) none ∙ ap length (append_nil (among f n e)) in
    omega arith)
    (λ ne. let short = among_short f n a e (omega arith) z in let one = single_adds (among f n e) (e n) (part f n) in omega arith)
    (cases_eq a n)
