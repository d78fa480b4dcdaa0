-- A memory fits where each number is below its bound, and none is left.
use Rattle.std.proofs.Common.{◌≡◌, ℕ, zero, suc, ◌<◌, List, [], ◌∷◌, ◌++◌, length, get_or, Bool, true, false, nat_lt, refl, sym, ap, ◌∙◌, arith}
use Rattle.std.specs.Prelude.{if◌then◌else◌, Option, Some, None, ◌↔◌, IsTrue, ◌==◌}
use Rattle.std.proofs.lemmas.Bool.{false≢true}
use Rattle.std.proofs.lemmas.Bool.Decides.{nat_tests}
use Rattle.bt_nodes.specs.Plain.{Plain, Not, Tries, Ticks}
use Rattle.bt_nodes.specs.Bounds.{bounds, bounds_all, Fits}
use Rattle.bt_tick.specs.Children.{children_of}
use Rattle.bt_tick.specs.Fitting.{behind, root_bound}
use Rattle.bt_tick.proofs.Trees.{append_nil}

pub Below : List ℕ → List ℕ → Type 0
Below bs m = (length m ≡ length bs) × ((k : ℕ) → k < length m → get_or m k 0 < get_or bs k 0)

below_cons : (b n : ℕ) (bs m : List ℕ) → n < b → Below bs m → Below (b ∷ bs) (n ∷ m)
unfolding Below
below_cons b n bs m l h = (ap suc h.0, below)
  where
    below : (k : ℕ) → k < suc (length m) → get_or (n ∷ m) k 0 < get_or (b ∷ bs) k 0
    below zero w = l
    below (suc k) w = h.1 k (omega (arith, w))

some_none : (X : Type 0) (xs : List ℕ) → None ≡ Some xs → X
some_none X xs e = absurd (cc)

below_by : (b n : ℕ) (bs m : List ℕ) → (behind bs m ≡ Some [] → Below bs m) → (t : Bool) → nat_lt n b ≡ t → (if t then behind bs m else None) ≡ Some [] → Below (b ∷ bs) (n ∷ m)
below_by b n bs m rest true i h = let l : n < b = grind (arith, nat_tests) in below_cons b n bs m l (rest h)
below_by b n bs m rest false i h = some_none (Below (b ∷ bs) (n ∷ m)) [] h

pub below_of : (bs m : List ℕ) → behind bs m ≡ Some [] → Below bs m
unfolding Below
below_of [] [] e = (refl, λ k w. absurd (omega (arith, w)))
below_of [] (n ∷ m) e = absurd (cc)
below_of (b ∷ bs) [] e = absurd (cc)
below_of (b ∷ bs) (n ∷ m) e = below_by b n bs m (below_of bs m) (nat_lt n b) refl e

pub of_below : (bs m : List ℕ) → Below bs m → behind bs m ≡ Some []
unfolding Below
of_below [] [] h = refl
of_below [] (n ∷ m) h = let e = h.0 in absurd (omega (arith, e))
of_below (b ∷ bs) [] h = let e = h.0 in absurd (omega (arith, e))
of_below (b ∷ bs) (n ∷ m) h =
    let l : n < b = h.1 0 (omega arith) in
    let t : nat_lt n b ≡ true = grind (arith, nat_tests) in
    ap (λ (x : Bool). if x then behind bs m else None) t ∙ of_below bs m (omega (arith, h.0), λ k w. h.1 (suc k) (omega (arith, w)))

pub fits_behind : (p : Plain) (m : List ℕ) → (behind (bounds p) m ≡ Some []) ↔ Fits p m
unfolding Below
fits_behind p m = (
  (λ e. let b = below_of (bounds p) m e in record { same_length = b.0; below = b.1 }),
  (λ f. of_below (bounds p) m (f.same_length, f.below)),
)

pub root_bounds : (p : Plain) → bounds p ≡ root_bound p ∷ bounds_all (children_of p)
root_bounds (Not c) = ap (λ l. 1 ∷ l) (sym (append_nil (bounds c)))
root_bounds (Tries k c) = ap (λ l. suc k ∷ l) (sym (append_nil (bounds c)))
root_bounds (Ticks k c) = ap (λ l. suc k ∷ l) (sym (append_nil (bounds c)))
root_bounds _ = refl

module _ (p : Plain) (m m' : List ℕ) (same : m' ≡ m) where
  -- where numbers are left, or one is not below its bound, it doesn't fit
  pub some_left : (rest : List ℕ) (b : Bool) → behind (bounds p) m' ≡ Some rest → b ≡ (length rest == 0) → IsTrue b ↔ Fits p m
  some_left [] b e t = (
    (λ h. (fits_behind p m).0 (ap (behind (bounds p)) (sym same) ∙ e)),
    (λ f. let z : (length {A = ℕ} [] == 0) ≡ true = grind (arith, nat_tests) in t ∙ z),
  )
  some_left (n ∷ rest) b e t = (
    (λ h. let z : (length (n ∷ rest) == 0) ≡ false = grind (arith, nat_tests) in absurd (false≢true (sym (t ∙ z) ∙ h))),
    (λ f. let x : Some [] ≡ Some (n ∷ rest) = sym ((fits_behind p m).1 f) ∙ ap (behind (bounds p)) (sym same) ∙ e in absurd (cc)),
  )

  pub none_fits : behind (bounds p) m' ≡ None → IsTrue false ↔ Fits p m
  none_fits e = (
    (λ h. absurd (false≢true h)),
    (λ f. let x : Some [] ≡ None = sym ((fits_behind p m).1 f) ∙ ap (behind (bounds p)) (sym same) ∙ e in absurd (cc)),
  )

-- ---- one tree after another

some_by : (t : Bool) (x y : Option (List ℕ)) (z : Option (List ℕ)) (rest : List ℕ) → (x ≡ Some rest → y ≡ z) → (if t then x else None) ≡ Some rest → (if t then y else None) ≡ z
some_by true x y z rest f h = f h
some_by false x y z rest f h = some_none ((if false then y else None) ≡ z) rest h

pub some_behind : (cs bs ns rest : List ℕ) → behind cs ns ≡ Some rest → behind (cs ++ bs) ns ≡ behind bs rest
some_behind [] bs ns rest e = let same : ns ≡ rest = cc in ap (behind bs) same
some_behind (a ∷ cs) bs [] rest e = absurd (cc)
some_behind (a ∷ cs) bs (n ∷ ns) rest e = some_by (nat_lt n a) (behind cs ns) (behind (cs ++ bs) ns) (behind bs rest) rest (some_behind cs bs ns rest) e

none_by : (t : Bool) (x y : Option (List ℕ)) → (x ≡ None → y ≡ None) → (if t then x else None) ≡ None → (if t then y else None) ≡ None
none_by true x y f h = f h
none_by false x y f h = refl

pub none_behind : (cs bs ns : List ℕ) → behind cs ns ≡ None → behind (cs ++ bs) ns ≡ None
none_behind [] bs ns e = absurd (cc)
none_behind (a ∷ cs) bs [] e = refl
none_behind (a ∷ cs) bs (n ∷ ns) e = none_by (nat_lt n a) (behind cs ns) (behind (cs ++ bs) ns) (none_behind cs bs ns) e
