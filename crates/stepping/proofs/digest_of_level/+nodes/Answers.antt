use Rattle.std.proofs.Common.{◌≡◌, ◌∙◌, ◌+◌, sym, ap, drop, arith}
use Rattle.bt_nodes.specs.Plain.{plain, plains, tree}
use Rattle.bt_nodes.specs.Sizes.{sizes}
use Rattle.bt_nodes.proofs.Alike.{item_smaller, decorated_smaller, listed_smaller}
use Rattle.bt_nodes.proofs.Forests.{plains-drop, plains-end, count-plains}
use Rattle.stepping.specs.Digest.{fnv_all}
use Rattle.stepping.specs.LevelDigest.{tree_bytes, forest_bytes}
use Rattle.stepping.proofs.Fnv.{in_turn}
use Rattle.stepping.proofs.Trees.{decorated_in, listed_in}
use Rattle.stepping.proofs.digest_of_level.+nodes.Goals as goal

pub with_tree-with_tree-requires : goal.with_tree-with_tree-requires
with_tree-with_tree-requires t c =
    let small = decorated_smaller (plain c.args.node.now) (plain c.in-Some.child.now) c.in-Some.ensures in
    (omega (arith, small), tt)

pub with_tree-with_trees-requires : goal.with_tree-with_trees-requires
with_tree-with_trees-requires t c =
    let small = listed_smaller (plain c.args.node.now) in
    (omega (arith, small, ap sizes c.listed-children.ensures), tt)

pub with_trees-with_tree-so_far-requires : goal.with_trees-with_tree-so_far-requires
with_trees-with_tree-so_far-requires t c =
    let small = item_smaller c.args.nodes.now c.nodes.node-index c.node-item.result c.nodes-test.true c.node-item.is in
    (omega (arith, small), tt)

pub with_tree-returns-in-Some : goal.with_tree-returns-in-Some
with_tree-returns-in-Some t c =
    decorated_in c.args.hash c.with_node.result c.with_tree.result (plain c.args.node.now) (plain c.in-Some.child.now) c.in-Some.ensures c.with_node.ensures c.with_tree.ensures

pub with_tree-returns-in-None : goal.with_tree-returns-in-None
with_tree-returns-in-None t c =
    let nodes = c.listed-children.result.now in
    listed_in c.args.hash c.with_node-in-None.result c.with_trees.result (plain c.args.node.now) (plains nodes) _ c.in-None.ensures c.listed-children.ensures
    (sym (count-plains nodes)) c.with_node-in-None.ensures c.with_trees.ensures

pub with_trees-nodes-preserved : goal.with_trees-nodes-preserved
with_trees-nodes-preserved t c =
    let nodes = c.args.nodes.now in
    let i = c.nodes.node-index in
    let n = c.node-item.result in
    let rest = plains (drop (i + 1) nodes) in
    let step : plains (drop i nodes) ≡ tree (plain n) rest = plains-drop nodes i n c.nodes-test.true ∙ ap (λ m. tree (plain m) rest) (sym c.node-item.is) in
    ap (λ k. fnv_all k (forest_bytes rest)) c.with_tree-so_far.ensures
    ∙ sym (in_turn c.nodes.so_far (tree_bytes (plain n)) (forest_bytes rest))
    ∙ sym (ap (λ f. fnv_all c.nodes.so_far (forest_bytes f)) step)
    ∙ c.nodes.invariant

pub with_trees-returns : goal.with_trees-returns
with_trees-returns t c =
    sym (ap (λ f. fnv_all c.nodes.so_far (forest_bytes f)) (plains-end c.args.nodes.now c.nodes.node-index c.nodes-test.false)) ∙ c.nodes.invariant
