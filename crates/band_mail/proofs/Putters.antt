-- The Putters of a mail, one after another.
use Rattle.std.proofs.Common.{◌≡◌, ℕ, ◌<◌, List, [], ◌∷◌, ◌++◌, length, sym, ap, subst, arith, length-append, refl}
use Rattle.band_mail.specs.Mails.{Mail, Putting, IsPutterOf, ArePuttersOf}
use Rattle.band_mail.proofs.Named.{kept, popped, grown}

module _ {T : Type 0} where
  -- the last of them goes
  pub last_putter : (mail : Mail) (old new : List (Putting T)) (p : Putting T) → ArePuttersOf mail old → old ≡ new ++ p ∷ [] → (p.worker ≡ length new) × IsPutterOf mail p × ArePuttersOf mail new
  last_putter mail old new p are e =
      let low : length new < length old = omega (arith, ap length e, length-append new (p ∷ [])) in
      let it = are (length new) p low in
      let at = popped old new p p (length new) e refl in
      let Is : ℕ → Putting T → Type 0 = λ k x. (x.worker ≡ k) × IsPutterOf mail x in
      let last : Is (length new) p = subst (λ (x : Putting T). Is (length new) x) at it in
      (last.0, last.1, λ k q below. subst (λ (x : Putting T). Is k x) (sym (kept old new p q k e below)) (are k q (omega (arith, below, low))))

  -- the next of them comes
  pub next_putter : (mail : Mail) (putters : List (Putting T)) (p : Putting T) → ArePuttersOf mail putters → p.worker ≡ length putters → IsPutterOf mail p → ArePuttersOf mail (putters ++ p ∷ [])
  next_putter mail putters p are worker is = grown (λ k (x : Putting T). (x.worker ≡ k) × IsPutterOf mail x) putters p are (worker, is)
