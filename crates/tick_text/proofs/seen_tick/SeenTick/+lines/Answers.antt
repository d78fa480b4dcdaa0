use Rattle.std.proofs.Common.{◌≡◌, ◌∙◌, ◌+◌, ◌++◌, sym, ap, drop, arith, append-nil}
use Rattle.std.proofs.lemmas.Result.{IfOk-weaker}
use Rattle.bt_nodes.specs.Plain.{Forest, plain, plains, tree}
use Rattle.bt_nodes.specs.Sizes.{sizes}
use Rattle.bt_nodes.proofs.Alike.{item_smaller}
use Rattle.bt_nodes.proofs.Below.{size-listed, size-decorated}
use Rattle.bt_nodes.proofs.Forests.{plains-drop, plains-end}
use Rattle.tick_text.specs.Seen.{tick_of}
use Rattle.tick_text.specs.Lines.{Tick, forest_lines}
use Rattle.tick_text.proofs.NodeLines.{decorated_told, listed_told, tree_told}
use Rattle.std.proofs.lemmas.Result.{on_ok_weaker}
use Rattle.tick_text.proofs.seen_tick.SeenTick.+lines.Goals as goal

pub push_tree-push_tree-requires : goal.push_tree-push_tree-requires
push_tree-push_tree-requires t c =
    let more = size-decorated (plain c.args.node.now) (plain c.in-Some.child.now) c.in-Some.ensures in
    (omega (arith, more), (c.requires.agent, (omega (arith, c.requires.few, more), omega (arith, c.requires.deep))))

pub push_tree-push_trees-requires : goal.push_tree-push_trees-requires
push_tree-push_trees-requires t c =
    let more = size-listed (plain c.args.node.now) c.in-None.ensures in
    let same = ap sizes c.listed.ensures in
    (omega (arith, more, same), (c.requires.agent, (omega (arith, c.requires.few, more, same), omega (arith, c.requires.deep))))

pub push_trees-push_tree-requires : goal.push_trees-push_tree-requires
push_trees-push_tree-requires t c =
    let nodes = c.args.nodes.now in
    let n = c.node-item.result in
    let small = item_smaller nodes c.nodes.node-index n c.nodes-test.true c.node-item.is in
    let step : plains (drop c.nodes.node-index nodes) ≡ tree (plain n) (plains (drop (c.nodes.node-index + 1) nodes)) =
    plains-drop nodes c.nodes.node-index n c.nodes-test.true ∙ ap (λ m. tree (plain m) (plains (drop (c.nodes.node-index + 1) nodes))) (sym c.node-item.is) in
    let some = ap sizes step in
    (omega (arith, small), (c.requires.agent, (omega (arith, c.requires.few, c.nodes.invariant.next, some), omega (arith, c.requires.deep, c.nodes.invariant.deep))))

pub push_tree-returns-in-Some-clause-text : goal.push_tree-returns-in-Some-clause-text
push_tree-returns-in-Some-clause-text t c =
    on_ok_weaker c.push_tree.result
    (decorated_told (tick_of c.args.self.now) c.args.number c.args.depth (plain c.args.node.now) c.args.text.now.items c.push_line.new.text.items c.push_tree.new.text.items
    c.in_ok-push_line.ensures (plain c.in-Some.child.now) c.in-Some.ensures) c.push_tree.ensures.text

pub push_tree-returns-in-Some-clause-next : goal.push_tree-returns-in-Some-clause-next
push_tree-returns-in-Some-clause-next t c =
    let more = size-decorated (plain c.args.node.now) (plain c.in-Some.child.now) c.in-Some.ensures in
    IfOk-weaker c.push_tree.result _ _ (λ next is. omega (arith, more, is)) c.push_tree.ensures.next

pub push_tree-returns-in-None-clause-text : goal.push_tree-returns-in-None-clause-text
push_tree-returns-in-None-clause-text t c =
    on_ok_weaker c.push_trees.result
    (listed_told (tick_of c.args.self.now) c.args.number c.args.depth (plain c.args.node.now) c.args.text.now.items c.push_line.new.text.items c.push_trees.new.text.items
    c.in_ok-push_line.ensures (plains c.listed.result.now) c.in-None.ensures c.listed.ensures) c.push_trees.ensures.text

pub push_tree-returns-in-None-clause-next : goal.push_tree-returns-in-None-clause-next
push_tree-returns-in-None-clause-next t c =
    let more = size-listed (plain c.args.node.now) c.in-None.ensures in
    let same = ap sizes c.listed.ensures in
    IfOk-weaker c.push_trees.result _ _ (λ next is. omega (arith, more, same, is)) c.push_trees.ensures.next

pub push_trees-nodes-preserved : goal.push_trees-nodes-preserved
push_trees-nodes-preserved t c =
    let nodes = c.args.nodes.now in
    let i = c.nodes.node-index in
    let n = c.node-item.result in
    let rest : Forest = plains (drop (i + 1) nodes) in
    let step : plains (drop i nodes) ≡ tree (plain n) rest = plains-drop nodes i n c.nodes-test.true ∙ ap (λ m. tree (plain m) rest) (sym c.node-item.is) in
    let some = ap sizes step in
    let is = c.in_ok-next.ensures.next in
    record {
      text = tree_told (tick_of c.args.self.now) (plain n) rest (plains (drop i nodes)) c.nodes.next c.in_ok-next.next c.args.depth c.nodes.text.items c.push_tree.new.text.items _
          step is c.in_ok-next.ensures.text c.nodes.invariant.text;
      next = omega (arith, some, is, c.nodes.invariant.next);
      deep = omega (arith, is, c.nodes.invariant.deep);
    }

pub push_trees-returns-clause-text : goal.push_trees-returns-clause-text
push_trees-returns-clause-text t c =
    let t' : Tick = tick_of c.args.self.now in
    let end = plains-end c.args.nodes.now c.nodes.node-index c.nodes-test.false in
    sym (append-nil c.nodes.text.items) ∙ sym (ap (λ f. c.nodes.text.items ++ forest_lines t' f c.nodes.next c.args.depth) end) ∙ c.nodes.invariant.text

pub push_trees-returns-clause-next : goal.push_trees-returns-clause-next
push_trees-returns-clause-next t c =
    let end = ap sizes (plains-end c.args.nodes.now c.nodes.node-index c.nodes-test.false) in
    omega (arith, end, c.nodes.invariant.next)
