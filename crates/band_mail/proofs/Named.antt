-- Two lists with the same names, one element of each, and a list that grows or shrinks at its end.
use Rattle.std.proofs.Common.{◌≡◌, ◌≢◌, ℕ, All, ◌<◌, ◌⊎◌, inl, inr, ⊎_elim, zero, suc, refl, List, [], ◌∷◌, ◌++◌, length, map, get_or, sym, ap, ◌∙◌, subst, arith, length-append}
use Rattle.std.proofs.lemmas.List.{get_or-map, length-map, get_or_push, get_or_append_left}

pub same_or_not : (a b : ℕ) → (a ≡ b) ⊎ (a ≢ b)
same_or_not zero zero = inl refl
same_or_not zero (suc b) = inr (λ h. omega arith)
same_or_not (suc a) zero = inr (λ h. omega arith)
same_or_not (suc a) (suc b) = ⊎_elim (λ (e : a ≡ b). inl (ap suc e)) (λ (n : a ≢ b). inr (λ e. n (omega arith))) (same_or_not a b)

module _ {X Y N : Type 0} where
  pub as_many : (f : X → N) (g : Y → N) (xs : List X) (ys : List Y) → map f xs ≡ map g ys → length xs ≡ length ys
  as_many f g xs ys e = sym (length-map xs f) ∙ ap length e ∙ length-map ys g

  pub same_name : (f : X → N) (g : Y → N) (xs : List X) (ys : List Y) (k : ℕ) (x : X) (y : Y) → map f xs ≡ map g ys → k < length xs → x ≡ get_or xs k x → y ≡ get_or ys k y → f x ≡ g y
  same_name f g xs ys k x y e low at by =
      ap f at
      ∙ sym (get_or-map f xs k x (f x) low)
      ∙ ap (λ (l : List N). get_or l k (f x)) e
      ∙ get_or-map g ys k y (f x) (omega (arith, low, as_many f g xs ys e))
      ∙ ap g (sym by)

module _ {X : Type 0} where
  pub popped : (old new : List X) (x d : X) (n : ℕ) → old ≡ new ++ x ∷ [] → length new ≡ n → get_or old n d ≡ x
  popped old new x d n e len = ap (λ (l : List X). get_or l n d) e ∙ get_or_push new x d n len

  pub kept : (old new : List X) (x d : X) (k : ℕ) → old ≡ new ++ x ∷ [] → k < length new → get_or new k d ≡ get_or old k d
  kept old new x d k e low = sym (ap (λ (l : List X). get_or l k d) e ∙ get_or_append_left new (x ∷ []) d k low)

  pub grown : (P : ℕ → X → Type 0) (xs : List X) (y : X) → ((k : ℕ) (d : X) → k < length xs → P k (get_or xs k d)) → P (length xs) y
      → (k : ℕ) (d : X) → k < length (xs ++ y ∷ []) → P k (get_or (xs ++ y ∷ []) k d)
  grown P xs y all last k d below =
      ⊎_elim
      (λ (e : k ≡ length xs). subst (λ (z : X). P k z) (sym (get_or_push xs y d k (sym e))) (subst (λ (n : ℕ). P n y) (sym e) last))
      (λ (n : k ≢ length xs).
      let low : k < length xs = omega (arith, n, below, length-append xs (y ∷ [])) in
      subst (λ (z : X). P k z) (sym (get_or_append_left xs (y ∷ []) d k low)) (all k d low))
      (same_or_not k (length xs))

  pub at_place : (P : X → Type 0) (xs : List X) (k : ℕ) (x : X) → All P xs → k < length xs → x ≡ get_or xs k x → P x
  at_place P xs k x all low at = subst P (sym at) (all k x low)
