use Rattle.std.proofs.Common.{take, List, ◌≡◌, ℕ, map, ◌∙◌, ap, sym, subst, arith, ◌<◌, ◌+◌, length, length-append, [], ◌∷◌}
use Rattle.bt_nodes.specs.declared.leaf.Leaf.TheVariants.{Carrying}
use Rattle.bt_nodes.specs.Plain.{Plain, Does}
use Rattle.bt_nodes.specs.Bounds.{Fits, zero_memory}
use Rattle.bt_nodes.specs.Trees.{plain_of}
use Rattle.std.proofs.lemmas.List.{get_or_default}
use Rattle.game_session.specs.Levels.{value_of, agent_trees}
use Rattle.frame_parts.proofs.Fitting.{FitSoFar, fit_more, took_more}
use Rattle.frame_parts.proofs.memories.zero_memories.Goals as goal

pub agents-preserved : goal.agents-preserved
agents-preserved c =
    let trees : List Plain = agent_trees (value_of c.args.level.now) in
    let i = c.agents.agent in
    let done = c.agents.memories.items in
    let m = c.in_ok-zero.field-0 in
    let p = plain_of c.tree_of.result.now in
    let h : i < length trees = omega (arith, c.agents-test.true, c.world.ensures.agents, ap length c.agents-count.ensures.value) in
    record {
      zeros = subst (λ (l : List (List ℕ)). l ≡ map zero_memory (take (i + 1) trees)) (sym c.in_ok-push.ensures.items)
          (took_more zero_memory trees done m i (Does Carrying) p h c.tree_of.ensures.value c.in_ok-zero.ensures.zero c.agents.invariant.zeros);
      count = ap length c.in_ok-push.ensures.items ∙ length-append done (m ∷ []) ∙ ap (λ n. n + 1) c.agents.invariant.count;
      fit = subst (λ l. FitSoFar (λ q. q) trees l (i + 1)) (sym c.in_ok-push.ensures.items)
          (fit_more (λ q. q) trees done m i c.agents.invariant.count c.agents.invariant.fit
          (λ d. subst (λ q. Fits q m) (sym (get_or_default trees i d (Does Carrying) h ∙ c.tree_of.ensures.value)) c.in_ok-zero.ensures.fits));
    }
