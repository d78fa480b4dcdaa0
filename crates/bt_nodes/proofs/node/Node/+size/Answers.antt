use Rattle.std.proofs.Common.{ap, arith}
use Rattle.bt_nodes.specs.Plain.{plain}
use Rattle.bt_nodes.specs.Sizes.{size, sizes}
use Rattle.bt_nodes.proofs.Forests.{plains-drop, plains-end}
use Rattle.bt_nodes.proofs.Alike.{item_smaller}
use Rattle.bt_nodes.proofs.Below.{size-listed, size-decorated}
use Rattle.bt_nodes.proofs.node.Node.+size.Goals as goal

pub size_to-returns-in-Some : goal.size_to-returns-in-Some
size_to-returns-in-Some g t c = omega (arith, size-decorated (plain c.args.self.now) (plain c.in-Some.child.now) c.in-Some.ensures)

pub size_to-returns-in-None : goal.size_to-returns-in-None
size_to-returns-in-None g t c =
    omega (arith, size-listed (plain c.args.self.now) c.in-None.ensures, ap sizes c.listed.ensures)

pub sizes_to-size_to-total-requires : goal.sizes_to-size_to-total-requires
sizes_to-size_to-total-requires g t c κs within =
    let small = item_smaller c.args.nodes.now c.nodes.node-index c.node-item.result c.nodes-test.true c.node-item.is in
    (omega (arith, small), within)

pub sizes_to-returns : goal.sizes_to-returns
sizes_to-returns g t c =
    omega (
      arith,
      c.nodes.invariant.left,
      ap sizes (plains-end c.args.nodes.now c.nodes.node-index c.nodes-test.false),
    )

pub sizes_to-nodes-preserved : goal.sizes_to-nodes-preserved
sizes_to-nodes-preserved g t c = record {
  fits = omega arith;
  left =
      omega (
        arith,
        c.nodes.invariant.left,
        ap (λ node. size (plain node)) c.node-item.is,
        ap sizes (plains-drop c.args.nodes.now c.nodes.node-index c.node-item.result c.nodes-test.true),
      );
}
