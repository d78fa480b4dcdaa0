-- How many bands were put, one Putter after another.
use Rattle.std.proofs.Common.{◌≡◌, ℕ, zero, suc, ◌+◌, List, [], ◌∷◌, ◌++◌, length, replicate, refl, ap, ◌∙◌, arith}
use Rattle.std.proofs.lemmas.List.Sums.{sum_by-cons, sum_by_push}
use Rattle.band_mail.specs.Mails.{Putting, all_put}
use Rattle.play_run.specs.Puts.{bands_put}

module _ {T : Type 0} where
  pub one_more : (old new : List (Putting T)) (p : Putting T) → old ≡ new ++ p ∷ [] → bands_put old ≡ bands_put new + length p.put
  one_more old new p e = ap (λ (l : List (Putting T)). bands_put l) e ∙ sum_by_push (λ (q : Putting T). length q.put) new p

  pub none_at_first : (putters : List (Putting T)) (n : ℕ) → all_put putters ≡ replicate n [] → bands_put putters ≡ 0
  none_at_first [] n e = refl
  none_at_first (p ∷ ps) zero e = let wrong : p.put ∷ all_put ps ≡ [] = e in cc
  none_at_first (p ∷ ps) (suc n) e =
      let both : p.put ∷ all_put ps ≡ [] ∷ replicate n [] = e in
      let here : p.put ≡ [] = cc in
      let rest : all_put ps ≡ replicate n [] = cc in
      omega (arith, sum_by-cons (λ (q : Putting T). length q.put) p ps, ap (λ (l : List T). length l) here, none_at_first ps n rest)
