use Rattle.std.proofs.Common.{ap, arith}
use Rattle.bt_nodes.specs.Plain.{plain}
use Rattle.bt_nodes.specs.Sizes.{depth, deepest}
use Rattle.bt_nodes.proofs.Forests.{plains-drop, plains-end}
use Rattle.bt_nodes.proofs.Alike.{item_smaller}
use Rattle.bt_nodes.proofs.Below.{depth-listed, depth-decorated}
use Rattle.bt_nodes.proofs.node.Node.+depth.Goals as goal

pub deepest-depth-requires : goal.deepest-depth-requires
deepest-depth-requires g t c κs within =
    let small = item_smaller c.args.nodes.now c.nodes.node-index c.node-item.result c.nodes-test.true c.node-item.is in
    (omega (arith, small), within)

pub depth-returns-in-Some : goal.depth-returns-in-Some
depth-returns-in-Some g t c = omega (arith, depth-decorated (plain c.args.self.now) (plain c.in-Some.child.now) c.in-Some.ensures)

pub depth-returns-in-None : goal.depth-returns-in-None
depth-returns-in-None g t c =
    omega (arith, depth-listed (plain c.args.self.now) c.in-None.ensures, ap deepest c.listed.ensures)

pub deepest-returns : goal.deepest-returns
deepest-returns g t c =
    omega (
      arith,
      c.nodes.invariant.left,
      ap deepest (plains-end c.args.nodes.now c.nodes.node-index c.nodes-test.false),
    )

pub deepest-nodes-preserved : goal.deepest-nodes-preserved
deepest-nodes-preserved g t c = record {
  fits = omega arith;
  left =
      omega (
        arith,
        c.nodes.invariant.left,
        ap (λ node. depth (plain node)) c.node-item.is,
        ap deepest (plains-drop c.args.nodes.now c.nodes.node-index c.node-item.result c.nodes-test.true),
      );
}
