use Rattle.std.proofs.Common.{◌≡◌, ◌<◌, ◌≤◌, ◌∙◌, List, length, get_or, ap, sym, arith}
use Rattle.std.specs.List.{flat_map}
use Rattle.bt_nodes.specs.declared.leaf.Leaf.TheVariants.{Carrying}
use Rattle.bt_nodes.specs.Plain.{Plain, Does, plain}
use Rattle.game_session.specs.Levels.{value_of, agent_trees}
use Rattle.stepping.specs.Digest.{fnv_all}
use Rattle.stepping.specs.LevelDigest.{tree_bytes}
use Rattle.stepping.proofs.Fnv.{all_in, next_in}
use Rattle.stepping.proofs.digest_of_level.with_agent_trees.Goals as goal

pub agents-preserved : goal.agents-preserved
agents-preserved c =
    let trees : List Plain = agent_trees (value_of c.args.level.now) in
    let a = c.agents.agent in
    let h : a < length trees = omega (arith, c.agents-test.true, c.world.ensures.agents, ap length c.agents-count.ensures.value) in
    let is : get_or trees a (Does Carrying) ≡ plain c.root.result.now = c.tree_of.ensures.value ∙ sym c.root.ensures.value in
    next_in tree_bytes trees a c.agents.so_far (fnv_all c.args.hash (flat_map tree_bytes trees)) (Does Carrying) (plain c.root.result.now) c.with_tree-so_far.result h is
    c.with_tree-so_far.ensures c.agents.invariant

pub returns : goal.returns
returns c =
    let trees : List Plain = agent_trees (value_of c.args.level.now) in
    let h : length trees ≤ c.agents.agent = omega (arith, c.agents-test.false, c.world.ensures.agents, ap length c.agents-count.ensures.value) in
    all_in tree_bytes trees c.agents.agent c.agents.so_far (fnv_all c.args.hash (flat_map tree_bytes trees)) h c.agents.invariant
