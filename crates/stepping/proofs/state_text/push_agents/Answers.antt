use Rattle.std.proofs.Common.{◌≡◌, ◌<◌, ◌≤◌, ◌∙◌, ◌++◌, ℕ, List, [], length, get_or, ap, sym, arith}
use Rattle.std.specs.Prelude.{Option, slice_get}
use Rattle.std.proofs.lemmas.Grind.{common_steps}
use Rattle.grid_world.specs.declared.cell.Agent.{Agent}
use Rattle.grid_world.specs.Grid.{Grid, agent_of}
use Rattle.bt_nodes.specs.declared.leaf.Leaf.TheVariants.{Carrying}
use Rattle.bt_nodes.specs.Plain.{Plain, Does}
use Rattle.bt_nodes.specs.Trees.{plain_of}
use Rattle.bt_nodes.specs.declared.node.Status.{Status}
use Rattle.game_rules.specs.Play.{Position}
use Rattle.draw_list.proofs.Counting.{pieces_more, pieces_end}
use Rattle.stepping.specs.StateText.{agent_line, line_of, agent_lines}
use Rattle.stepping.proofs.Lists.{fits_long}
use Rattle.stepping.proofs.state_text.push_agents.Goals as goal

pub push_agent-requires-clause-size : goal.push_agent-requires-clause-size
push_agent-requires-clause-size c =
    let a : ℕ = c.agents.number in
    let trees : List Plain = c.args.game.now.game.trees in
    let ms : List (List ℕ) = c.memories-memories.result.now in
    let m : List ℕ = c.index-memories-number.result in
    let h : a < length trees = omega (arith, c.agents-test.true, ap length c.agents-number-end.ensures.value, c.world-world.ensures.agents) in
    let tree : get_or trees a (Does Carrying) ≡ plain_of c.tree_of.result.now = sym (ap (λ (l : List Plain). get_or l a (Does Carrying)) c.level.ensures.trees) ∙ c.tree_of.ensures.value in
    let inside : a < length ms = omega (arith, h, c.memories-memories.ensures.fit.one_each) in
    let is : get_or ms a [] ≡ m = grind (arith, common_steps) in
    fits_long trees ms a (plain_of c.tree_of.result.now) m c.memories-memories.ensures.fit h tree is ∙ sym c.size-size.ensures.value

pub agents-preserved : goal.agents-preserved
agents-preserved c =
    let at : Position = c.args.game.now.position in
    let sts : List Status = c.args.game.now.answers in
    let a : ℕ = c.agents.number in
    let w : Grid = c.world-world.result.now in
    let ms : List (List ℕ) = c.memories-memories.result.now in
    let m : List ℕ = c.index-memories-number.result in
    let same : c.agents-number-end.result.now ≡ w.agents = c.agents-number-end.ensures.value in
    let inside : a < length w.agents = omega (arith, c.agents-test.true, ap length same) in
    let h : a < length at.world.agents = omega (arith, inside, ap (λ (v : Grid). length v.agents) c.world-world.ensures.value) in
    let inside_too : a < length ms = omega (arith, inside, c.world-world.ensures.agents, c.memories-memories.ensures.fit.one_each) in
    let memory_is : get_or ms a [] ≡ m = grind (arith, common_steps) in
    let first = ap (λ (x : Agent). agent_line a x c.answer_of-answer.result m) (c.agent_of-agent.ensures ∙ ap (λ (v : Grid). agent_of v a) c.world-world.ensures.value) in
    let second = ap (λ (x : Option Status). agent_line a (agent_of at.world a) x m) (c.answer_of-answer.ensures ∙ ap (λ (l : List Status). slice_get l a) c.statuses-answers.ensures.value) in
    let third = ap (agent_line a (agent_of at.world a) (slice_get sts a)) (sym memory_is ∙ ap (λ (l : List (List ℕ)). get_or l a []) c.memories-memories.ensures.value) in
    pieces_more (line_of at sts) c.agents.text.items c.push_agent.new.text.items (c.args.text.now.items ++ agent_lines at sts) a (length at.world.agents) h
    (c.in_ok-push_agent.ensures ∙ ap (λ l. c.agents.text.items ++ l) (first ∙ second ∙ third)) c.agents.invariant

pub returns : goal.returns
returns c =
    let at : Position = c.args.game.now.position in
    let sts : List Status = c.args.game.now.answers in
    let same = ap length c.agents-number-end.ensures.value in
    let le : length at.world.agents ≤ c.agents.number = omega (arith, c.agents-test.false, same, ap (λ (v : Grid). length v.agents) c.world-world.ensures.value) in
    pieces_end (line_of at sts) c.agents.text.items (c.args.text.now.items ++ agent_lines at sts) c.agents.number (length at.world.agents) le c.agents.invariant
