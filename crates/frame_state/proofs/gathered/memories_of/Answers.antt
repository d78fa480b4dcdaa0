use Rattle.std.proofs.Common.{◌≡◌, ◌+◌, ◌∙◌, ap, sym, subst, arith, length, get_or, ℕ, List, [], ◌∷◌, length-append}
use Rattle.std.proofs.lemmas.Grind.{common_steps}
use Rattle.std.proofs.lemmas.List.{get_or_default}
use Rattle.bt_nodes.specs.Bounds.{Fits}
use Rattle.game_jobs.specs.Instance.{tree_of}
use Rattle.frame_state.specs.Names.{PartOf}
use Rattle.frame_parts.proofs.Fitting.{FitSoFar, fit_more}
use Rattle.frame_state.proofs.gathered.memories_of.Goals as goal

pub thoughts-preserved : goal.thoughts-preserved
thoughts-preserved c =
    let thoughts = c.args.thoughts.now in
    let i = c.thoughts.thought-index in
    let done = c.thoughts.memories.items in
    let m = c.in_ok-share.field-0 in
    record {
      rest = grind (arith, common_steps);
      count = ap length c.in_ok-push.ensures.items ∙ length-append done (m ∷ []) ∙ ap (λ n. n + 1) c.thoughts.invariant.count;
      fit = subst (λ l. FitSoFar {X = PartOf} (λ p. tree_of p.game p.number) thoughts l (i + 1)) (sym c.in_ok-push.ensures.items)
          (fit_more {X = PartOf} (λ p. tree_of p.game p.number) thoughts done m i c.thoughts.invariant.count c.thoughts.invariant.fit (λ d.
          let e : get_or thoughts i d ≡ c.thought-item.result = get_or_default thoughts i d c.thought-item.result (omega arith) ∙ sym c.thought-item.is in
          let P : PartOf → Type 0 = λ q. Fits (tree_of q.game q.number) m in
          let Q : List ℕ → Type 0 = λ l. Fits (tree_of c.thought-item.result.game c.thought-item.result.number) l in
          subst P (sym e) (subst Q (sym c.in_ok-share.ensures) c.memory.ensures.fits)));
    }
