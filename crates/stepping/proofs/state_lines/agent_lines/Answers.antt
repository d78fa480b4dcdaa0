use Rattle.std.proofs.Common.{◌≡◌, ◌∙◌, ◌<◌, ◌≤◌, ℕ, List, length, map, get_or, ap, sym, arith}
use Rattle.std.proofs.lemmas.Grind.{common_steps}
use Rattle.std.proofs.lemmas.List.{length-map, get_or-map}
use Rattle.std.proofs.lemmas.Result.{err_from_is_err_and}
use Rattle.bt_nodes.specs.declared.leaf.Leaf.TheVariants.{Carrying}
use Rattle.bt_nodes.specs.Plain.{Plain, Does}
use Rattle.bt_nodes.specs.Sizes.{size}
use Rattle.game_session.specs.Levels.{value_of, agent_trees}
use Rattle.stepping.specs.StateReading.{CrewTold, no_crew, crew_from}
use Rattle.stepping.proofs.ReadOn.{crew_more, crew_fails, crew_ends}
use Rattle.stepping.proofs.state_lines.agent_lines.Goals as goal

-- how many nodes the tree of an agent has
size_at : (trees : List Plain) (i : ℕ) (p : Plain) (n : ℕ) → i < length trees → get_or trees i (Does Carrying) ≡ p → n ≡ size p → (i < length (map size trees)) × (get_or (map size trees) i 0 ≡ n)
size_at trees i p n inside is many =
    let few = length-map trees size in
    (omega (arith, inside, few), get_or-map size trees i (Does Carrying) 0 inside ∙ ap size is ∙ sym many)

pub returns-in_err-read : goal.returns-in_err-read
returns-in_err-read c =
    let trees : List Plain = agent_trees (value_of c.args.level.now) in
    let sizes : List ℕ = map size trees in
    let so_far : CrewTold = record { agents = c.agents.agents.items; answers = c.agents.answers.items; memories = c.agents.memories.items } in
    let at = size_at trees c.agents.number _ _ (omega (arith, c.agents-test.true, c.world.ensures.agents, ap length c.agents-count.ensures.value)) c.tree_of.ensures.value c.size.ensures.value in
    let p = err_from_is_err_and c.from_residual-in_err-read.result c.from_residual-in_err-read.ensures.1 in
    rw (p.1, p.2) (crew_fails so_far sizes c.agents.number c.agents.rest.now (crew_from no_crew sizes c.args.text.now) c.agents.invariant c.in_err-read.field-0.0 c.size.result at.0 at.1 c.in_err-read.ensures)

pub agents-preserved : goal.agents-preserved
agents-preserved c =
    let trees : List Plain = agent_trees (value_of c.args.level.now) in
    let sizes : List ℕ = map size trees in
    let so_far : CrewTold = record { agents = c.agents.agents.items; answers = c.agents.answers.items; memories = c.agents.memories.items } in
    let at = size_at trees c.agents.number _ _ (omega (arith, c.agents-test.true, c.world.ensures.agents, ap length c.agents-count.ensures.value)) c.tree_of.ensures.value c.size.ensures.value in
    crew_more so_far sizes c.agents.number c.agents.rest.now (crew_from no_crew sizes c.args.text.now) c.agents.invariant c.size.result _ c.in_ok-read.more.now _ at.0 at.1 c.in_ok-read.ensures
    (grind (arith, common_steps))

pub returns : goal.returns
returns c =
    let trees : List Plain = agent_trees (value_of c.args.level.now) in
    let sizes : List ℕ = map size trees in
    let so_far : CrewTold = record { agents = c.agents.agents.items; answers = c.agents.answers.items; memories = c.agents.memories.items } in
    let few : length sizes ≡ length trees = length-map trees size in
    let over : length sizes ≤ c.agents.number = omega (arith, few, c.agents-test.false, c.world.ensures.agents, ap length c.agents-count.ensures.value) in
    crew_ends so_far sizes c.agents.number c.agents.rest.now (crew_from no_crew sizes c.args.text.now) c.agents.invariant over
