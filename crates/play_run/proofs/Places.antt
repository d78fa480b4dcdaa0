-- A fact of each element, by its place, where a list loses or gets its last.
use Rattle.std.proofs.Common.{◌≡◌, ℕ, ◌<◌, List, [], ◌∷◌, ◌++◌, length, get_or, refl, sym, ap, ◌∙◌, subst, arith, length-append}
use Rattle.std.proofs.lemmas.List.{get_or_push, get_or_append_left}
use Rattle.band_mail.proofs.Named.{grown}

module _ {X : Type 0} where
  abbrev IsOfEach : List X → (ℕ → X → Type 0) → Type 0
  IsOfEach xs P = (k : ℕ) (d : X) → k < length xs → P k (get_or xs k d)

  pub of_rest : (old new : List X) (x : X) (P : ℕ → X → Type 0) → old ≡ new ++ x ∷ [] → IsOfEach old P → IsOfEach new P
  of_rest old new x P e all k d low =
      let same : get_or old k d ≡ get_or new k d = ap (λ (l : List X). get_or l k d) e ∙ get_or_append_left new (x ∷ []) d k low in
      let below : k < length old = omega (arith, low, ap (λ (l : List X). length l) e, length-append new (x ∷ [])) in
      subst (λ (y : X). P k y) same (all k d below)

  pub of_last : (old new : List X) (x : X) (P : ℕ → X → Type 0) → old ≡ new ++ x ∷ [] → IsOfEach old P → P (length new) x
  of_last old new x P e all =
      let same : get_or old (length new) x ≡ x = ap (λ (l : List X). get_or l (length new) x) e ∙ get_or_push new x x (length new) refl in
      let below : length new < length old = omega (arith, ap (λ (l : List X). length l) e, length-append new (x ∷ [])) in
      subst (λ (y : X). P (length new) y) same (all (length new) x below)

  pub of_one_more : (old new : List X) (x : X) (P : ℕ → X → Type 0) → new ≡ old ++ x ∷ [] → IsOfEach old P → P (length old) x → IsOfEach new P
  of_one_more old new x P e all last = subst (λ (l : List X). IsOfEach l P) (sym e) (grown P old x all last)
