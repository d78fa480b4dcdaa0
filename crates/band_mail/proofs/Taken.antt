-- One pass of a Taker changes.
use Rattle.std.proofs.Common.{◌≡◌, ◌≢◌, ℕ, ◌<◌, List, [], ◌∷◌, ◌++◌, length, get_or, set, sym, ap, ◌∙◌}
use Rattle.std.proofs.lemmas.List.{map-set, get_or-map, get_or-set_other}
use Rattle.std.proofs.Math.Seq.{map-set_same}
use Rattle.crossbeam_queue.specs.Passes.{Pass, view}
use Rattle.band_mail.specs.declared.relay.PassLog.{PassLog}
use Rattle.band_mail.specs.Queues.{pass_name, pass_names, taken_by, all_taken}

module _ {T : Type 0} where
  pub pass_names-set : (passes : List (Pass T (PassLog T))) (i : ℕ) (p old : Pass T (PassLog T)) → old ≡ get_or passes i old → pass_name p ≡ pass_name old → pass_names (set passes i p) ≡ pass_names passes
  pass_names-set passes i p old at same = map-set_same pass_name passes i p old (same ∙ ap pass_name at)

  pub all_taken-same : (passes : List (Pass T (PassLog T))) (i : ℕ) (p old : Pass T (PassLog T)) → old ≡ get_or passes i old → view p ≡ view old → all_taken (set passes i p) ≡ all_taken passes
  all_taken-same passes i p old at same = map-set_same taken_by passes i p old (ap (λ (v : PassLog T). v.taken) same ∙ ap taken_by at)

  pub all_taken-more : (passes : List (Pass T (PassLog T))) (i : ℕ) (p old : Pass T (PassLog T)) (x : T) → i < length passes → old ≡ get_or passes i old → taken_by p ≡ taken_by old ++ x ∷ []
      → all_taken (set passes i p) ≡ set (all_taken passes) i (get_or (all_taken passes) i [] ++ x ∷ [])
  all_taken-more passes i p old x below at more =
      let was : get_or (all_taken passes) i [] ≡ taken_by old = get_or-map taken_by passes i old [] below ∙ ap taken_by (sym at) in
      map-set taken_by passes i p ∙ ap (λ (l : List T). set (all_taken passes) i l) (more ∙ ap (λ (l : List T). l ++ x ∷ []) (sym was))

  pub all_taken-other : (passes : List (Pass T (PassLog T))) (i k : ℕ) (p : Pass T (PassLog T)) → k ≢ i → get_or (all_taken (set passes i p)) k [] ≡ get_or (all_taken passes) k []
  all_taken-other passes i k p apart = ap (λ (l : List (List T)). get_or l k []) (map-set taken_by passes i p) ∙ get_or-set_other (all_taken passes) i k (taken_by p) [] apart
