-- Which bands are of a worker, where those of one worker come in a row.
use Rattle.std.proofs.Common.{◌≡◌, ◌≢◌, ℕ, Bool, true, false, cond, eq-eqb, ne_eqb, List, [], ◌∷◌, ◌++◌, map, ap, ◌∙◌, refl}
use Rattle.std.specs.Prelude.{◌==◌, filter}
use Rattle.std.proofs.lemmas.List.{map-append}
use Rattle.std.proofs.lemmas.List.Elements.{filter-append}
use Rattle.band_mail.specs.Mails.{of_worker}

module _ {T : Type 0} where
  pub of_worker-append : (w : ℕ) (a b : List (ℕ × T)) → of_worker w (a ++ b) ≡ of_worker w a ++ of_worker w b
  of_worker-append w a b = ap (λ (l : List (ℕ × T)). map (λ (x : ℕ × T). x.1) l) (filter-append (λ (x : ℕ × T). x.0 == w) a b) ∙ map-append (λ (x : ℕ × T). x.1) (filter (λ (x : ℕ × T). x.0 == w) a) (filter (λ (x : ℕ × T). x.0 == w) b)

  pub of_worker-same : (w : ℕ) (l : List T) → of_worker w (map (λ (x : T). (w, x)) l) ≡ l
  of_worker-same w [] = refl
  of_worker-same w (x ∷ l) =
      let t : (w == w) ≡ true = eq-eqb w w refl in
      let rest = filter (λ (b : ℕ × T). b.0 == w) (map (λ (y : T). (w, y)) l) in
      ap (λ (b : Bool). map (λ (z : ℕ × T). z.1) (cond b ((w, x) ∷ rest) rest)) t ∙ ap (λ (q : List T). x ∷ q) (of_worker-same w l)

  pub of_worker-other : (w v : ℕ) (l : List T) → v ≢ w → of_worker w (map (λ (x : T). (v, x)) l) ≡ []
  of_worker-other w v [] n = refl
  of_worker-other w v (x ∷ l) n =
      let t : (v == w) ≡ false = ne_eqb v w n in
      let rest = filter (λ (b : ℕ × T). b.0 == w) (map (λ (y : T). (v, y)) l) in
      ap (λ (b : Bool). map (λ (z : ℕ × T). z.1) (cond b ((v, x) ∷ rest) rest)) t ∙ of_worker-other w v l n
