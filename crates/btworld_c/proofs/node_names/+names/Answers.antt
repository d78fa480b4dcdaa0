use Rattle.std.proofs.Common.{◌≡◌, ◌∙◌, ◌+◌, ◌++◌, sym, ap, drop, arith, append-nil}
use Rattle.bt_nodes.specs.Plain.{Forest, plain, plains, tree}
use Rattle.bt_nodes.specs.Sizes.{sizes}
use Rattle.bt_nodes.proofs.Alike.{item_smaller}
use Rattle.bt_nodes.proofs.Below.{size-listed, size-decorated}
use Rattle.bt_nodes.proofs.Forests.{plains-drop, plains-end}
use Rattle.btworld_c.specs.NodeNames.{forest_names}
use Rattle.btworld_c.proofs.NameLines.{decorated_named, listed_named, on_ok_map, tree_named}
use Rattle.btworld_c.proofs.node_names.+names.Goals as goal

pub push_names-push_names-requires : goal.push_names-push_names-requires
push_names-push_names-requires t c =
    let more = size-decorated (plain c.args.node.now) (plain c.in-Some.child.now) c.in-Some.ensures in
    (omega (arith, more), omega (arith, c.requires, more))

pub push_names-push_forest-requires : goal.push_names-push_forest-requires
push_names-push_forest-requires t c =
    let more = size-listed (plain c.args.node.now) c.in-None.ensures in
    let same = ap sizes c.listed.ensures in
    (omega (arith, more, same), omega (arith, c.requires, more, same))

pub push_forest-push_names-requires : goal.push_forest-push_names-requires
push_forest-push_names-requires t c =
    let nodes = c.args.nodes.now in
    let n = c.node-item.result in
    let small = item_smaller nodes c.nodes.node-index n c.nodes-test.true c.node-item.is in
    (omega (arith, small), omega (arith, c.requires, small))

pub push_names-returns-in-Some : goal.push_names-returns-in-Some
push_names-returns-in-Some t c =
    on_ok_map c.push_names.result _ _
    (decorated_named c.args.depth (plain c.args.node.now) c.args.text.now.items c.push_line.new.text.items c.push_names.new.text.items
    c.in_ok-push_line.ensures (plain c.in-Some.child.now) c.in-Some.ensures) c.push_names.ensures

pub push_names-returns-in-None : goal.push_names-returns-in-None
push_names-returns-in-None t c =
    on_ok_map c.push_forest.result _ _
    (listed_named c.args.depth (plain c.args.node.now) c.args.text.now.items c.push_line.new.text.items c.push_forest.new.text.items
    c.in_ok-push_line.ensures (plains c.listed.result.now) c.in-None.ensures c.listed.ensures) c.push_forest.ensures

pub push_forest-nodes-preserved : goal.push_forest-nodes-preserved
push_forest-nodes-preserved t c =
    let nodes = c.args.nodes.now in
    let i = c.nodes.node-index in
    let n = c.node-item.result in
    let rest : Forest = plains (drop (i + 1) nodes) in
    let step : plains (drop i nodes) ≡ tree (plain n) rest = plains-drop nodes i n c.nodes-test.true ∙ ap (λ m. tree (plain m) rest) (sym c.node-item.is) in
    tree_named (plain n) rest (plains (drop i nodes)) c.args.depth c.nodes.text.items c.push_names.new.text.items _ step c.in_ok-push_names.ensures c.nodes.invariant

pub push_forest-returns : goal.push_forest-returns
push_forest-returns t c =
    let end = plains-end c.args.nodes.now c.nodes.node-index c.nodes-test.false in
    sym (append-nil c.nodes.text.items) ∙ sym (ap (λ f. c.nodes.text.items ++ forest_names f c.args.depth) end) ∙ c.nodes.invariant
