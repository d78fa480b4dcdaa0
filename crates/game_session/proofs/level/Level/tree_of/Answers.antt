use Rattle.std.proofs.Common.{◌≡◌, ℕ, ◌<◌, ◌∙◌, sym, ap, List, length, get_or, arith}
use Rattle.std.proofs.lemmas.List.{length-map}
use Rattle.std.proofs.Math.ListN.{get_or-map}
use Rattle.std.specs.List.{list_all}
use Rattle.game_session.specs.Places.{places, has_place}
use Rattle.game_session.specs.Agents.{agents, has_agent}
use Rattle.game_session.specs.Faults.{world_of}
use Rattle.game_session.specs.Kept.{tree_view, trees_view}
use Rattle.game_session.specs.Levels.{value_of}
use Rattle.game_session.specs.declared.level.Level.{Level}
use Rattle.game_session.specs.declared.named_tree.NamedTree.{NamedTree}
use Rattle.game_session.proofs.AgentTrees.{pick_is_within, picked_tree, picked_is_placed, picked_is_crewed}
use Rattle.game_session.proofs.level.Level.tree_of.Goals as goal

-- what was read at an index, as a plain tree
tree_here : (trees : List NamedTree) (i j : ℕ) (t : NamedTree) → i ≡ j → t ≡ get_or trees i t → get_or (trees_view trees) j (tree_view t) ≡ tree_view t
tree_here trees i j t same read =
    ap (λ k. get_or (trees_view trees) k (tree_view t)) (sym same) ∙ get_or-map tree_view trees i t ∙ ap tree_view (sym read)

pub index-requires-2 : goal.index-requires-2
index-requires-2 c =
    let v : Level = c.args.self.now in
    let within : get_or v.picks.items c.args.agent c.index.result.now < length (trees_view v.trees.items) =
    pick_is_within (value_of v) v.picks.items v.faultless v.picked c.args.agent c.requires c.index.result.now in
    omega (arith, within, c.index.ensures, length-map v.trees.items tree_view, v.trees.ok)

pub returns-clause-value : goal.returns-clause-value
returns-clause-value c =
    let v : Level = c.args.self.now in
    let t : NamedTree = c.index-2.result.now in
    picked_tree (value_of v) v.picks.items v.faultless v.picked c.args.agent c.requires c.index.result.now (tree_view t)
    ∙ ap (λ n. n.tree) (tree_here v.trees.items c.index.result.now _ t c.index.ensures c.index-2.ensures)

pub returns-clause-placed : goal.returns-clause-placed
returns-clause-placed c =
    let v : Level = c.args.self.now in
    let t : NamedTree = c.index-2.result.now in
    ap (λ n. list_all (has_place (world_of (value_of v))) (places n.tree)) (sym (tree_here v.trees.items c.index.result.now _ t c.index.ensures c.index-2.ensures))
    ∙ picked_is_placed (value_of v) v.picks.items v.faultless v.picked c.args.agent c.requires c.index.result.now (tree_view t)

pub returns-clause-crewed : goal.returns-clause-crewed
returns-clause-crewed c =
    let v : Level = c.args.self.now in
    let t : NamedTree = c.index-2.result.now in
    ap (λ n. list_all (has_agent (world_of (value_of v))) (agents n.tree)) (sym (tree_here v.trees.items c.index.result.now _ t c.index.ensures c.index-2.ensures))
    ∙ picked_is_crewed (value_of v) v.picks.items v.faultless v.picked c.args.agent c.requires c.index.result.now (tree_view t)
