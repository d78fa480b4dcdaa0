use Rattle.std.proofs.Common.{◌≡◌, ◌<◌, ◌∙◌, [], length, get_or, ap, sym, arith}
use Rattle.std.proofs.lemmas.Grind.{common_steps}
use Rattle.game_session.specs.Levels.{value_of, agent_trees}
use Rattle.stepping.proofs.Lists.{fits_long}
use Rattle.stepping.proofs.same.are_same_memories.Goals as goal

pub are_same-requires-clause-one : goal.are_same-requires-clause-one
are_same-requires-clause-one c =
    let inside : c.agents.agent < length (agent_trees (value_of c.args.level.now)) = omega (arith, c.agents-test.true, c.world.ensures.agents, ap length c.agents-count.ensures.value) in
    let is : get_or c.args.memories.now c.agents.agent [] ≡ c.index-memories-agent.result = grind (arith, common_steps) in
    fits_long _ _ _ _ _ c.requires.one inside c.tree_of.ensures.value is ∙ sym c.size-size.ensures.value

pub are_same-requires-clause-other : goal.are_same-requires-clause-other
are_same-requires-clause-other c =
    let inside : c.agents.agent < length (agent_trees (value_of c.args.level.now)) = omega (arith, c.agents-test.true, c.world.ensures.agents, ap length c.agents-count.ensures.value) in
    let is : get_or c.args.others.now c.agents.agent [] ≡ c.index-others-agent.result = grind (arith, common_steps) in
    fits_long _ _ _ _ _ c.requires.other inside c.tree_of.ensures.value is ∙ sym c.size-size.ensures.value
