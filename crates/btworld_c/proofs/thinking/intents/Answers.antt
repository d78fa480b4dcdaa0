use Rattle.std.proofs.Common.{◌≡◌, ◌+◌, ◌<◌, ◌∙◌, ◌∷◌, [], ap, sym, arith, ℕ, List, length, length-append}
use Rattle.btworld_c.proofs.Intents.{wanted_more, all_wanted}
use Rattle.btworld_c.proofs.thinking.intents.Goals as goal

pub agents-preserved : goal.agents-preserved
agents-preserved c =
    let held = c.args.held.now in
    let i = c.agents.agent in
    let one_each : length held.position.memories ≡ length held.game.trees = sym (ap (λ (l : List (List ℕ)). length l) c.memories.ensures.value) ∙ c.memories.ensures.fit.one_each in
    let inside : i < length held.game.trees = omega (arith, c.agents-test.true, c.world.ensures.agents, ap length c.agents-count.ensures.value) in
    record {
      intents = c.in_ok-push.ensures.items ∙ wanted_more held.position.world c.args.signals held.game.trees held.position.memories one_each c.agents.them.items i _ inside c.in_ok-intent_at.ensures c.agents.invariant.intents;
      count = ap length c.in_ok-push.ensures.items ∙ length-append c.agents.them.items (c.in_ok-intent_at.field-0 ∷ []) ∙ ap (λ n. n + 1) c.agents.invariant.count;
    }

pub returns-clause-intents : goal.returns-clause-intents
returns-clause-intents c =
    let held = c.args.held.now in
    let one_each : length held.position.memories ≡ length held.game.trees = sym (ap (λ (l : List (List ℕ)). length l) c.memories.ensures.value) ∙ c.memories.ensures.fit.one_each in
    all_wanted held.position.world c.args.signals held.game.trees held.position.memories one_each c.agents.them.items c.agents.agent
    (omega (arith, c.agents-test.false, c.world.ensures.agents, ap length c.agents-count.ensures.value)) c.agents.invariant.intents
