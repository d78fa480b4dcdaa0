use Rattle.std.proofs.Common.{◌≡◌, ◌<◌, ◌≤◌, ◌∙◌, [], ℕ, List, length, get_or, ap, sym, arith}
use Rattle.std.specs.List.{flat_map}
use Rattle.std.proofs.lemmas.Grind.{common_steps}
use Rattle.bt_nodes.specs.Plain.{Plain}
use Rattle.bt_nodes.specs.Trees.{plain_of}
use Rattle.game_session.specs.Levels.{value_of, agent_trees}
use Rattle.stepping.specs.Digest.{fnv_all, memory_bytes}
use Rattle.stepping.proofs.Fnv.{each_in, all_in}
use Rattle.stepping.proofs.Lists.{fits_long}
use Rattle.stepping.proofs.digest.with_memories.Goals as goal

pub with_memory-so_far-requires : goal.with_memory-so_far-requires
with_memory-so_far-requires c =
    let trees : List Plain = agent_trees (value_of c.args.level.now) in
    let ms : List (List ℕ) = c.args.memories.now in
    let m : List ℕ = c.index-memories-agent.result in
    let h : c.agents.agent < length trees = omega (arith, c.agents-test.true, c.world.ensures.agents, ap length c.agents-count.ensures.value) in
    let is : get_or ms c.agents.agent [] ≡ m = grind (arith, common_steps) in
    fits_long trees ms c.agents.agent (plain_of c.tree_of.result.now) m c.requires h c.tree_of.ensures.value is ∙ sym c.size-size.ensures.value

pub agents-preserved : goal.agents-preserved
agents-preserved c =
    let ms : List (List ℕ) = c.args.memories.now in
    let m : List ℕ = c.index-memories-agent.result in
    let h : c.agents.agent < length ms = omega (arith, c.agents-test.true, c.world.ensures.agents, ap length c.agents-count.ensures.value, c.requires.one_each) in
    let is : get_or ms c.agents.agent m ≡ m = grind (arith, common_steps) in
    each_in memory_bytes ms c.agents.agent c.agents.so_far (fnv_all c.args.hash (flat_map memory_bytes ms)) m c.with_memory-so_far.result h is c.with_memory-so_far.ensures c.agents.invariant

pub returns : goal.returns
returns c =
    let ms : List (List ℕ) = c.args.memories.now in
    let h : length ms ≤ c.agents.agent = omega (arith, c.agents-test.false, c.world.ensures.agents, ap length c.agents-count.ensures.value, c.requires.one_each) in
    all_in memory_bytes ms c.agents.agent c.agents.so_far (fnv_all c.args.hash (flat_map memory_bytes ms)) h c.agents.invariant
