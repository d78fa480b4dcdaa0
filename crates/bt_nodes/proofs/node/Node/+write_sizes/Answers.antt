use Rattle.std.proofs.Common.{◌<◌, length, ap, arith, refl}
use Rattle.bt_nodes.specs.Plain.{plain, plains}
use Rattle.bt_nodes.specs.Sizes.{size, sizes}
use Rattle.bt_nodes.proofs.AtLeastOne.{one-le-size}
use Rattle.bt_nodes.proofs.Forests.{plains-drop, plains-end}
use Rattle.bt_nodes.proofs.SizeTables.{Below, below_listed, below_decorated, own_written, written_more, written_all}
use Rattle.bt_nodes.proofs.Alike.{item_smaller}
use Rattle.bt_nodes.proofs.Below.{size-listed, size-decorated}
use Rattle.bt_nodes.proofs.node.Node.+write_sizes.Goals.{write_sizes-in-Some, write_sizes-in-None}
use Rattle.bt_nodes.proofs.node.Node.+write_sizes.Goals as goal

pub write_all_sizes-write_sizes-next-requires : goal.write_all_sizes-write_sizes-next-requires
write_all_sizes-write_sizes-next-requires g t c κs within =
    let nodes = c.args.nodes.now in
    let small = item_smaller nodes c.nodes.node-index c.node-item.result c.nodes-test.true c.node-item.is in
    let is = ap (λ n. size (plain n)) c.node-item.is in
    let more = ap sizes (plains-drop nodes c.nodes.node-index c.node-item.result c.nodes-test.true) in
    (omega (arith, small), (within, omega (arith, is, more, c.nodes.invariant.left, c.requires)))

pub write_all_sizes-nodes-preserved : goal.write_all_sizes-nodes-preserved
write_all_sizes-nodes-preserved g t c = record {
  left =
      omega (
        arith,
        c.nodes.invariant.left,
        c.write_sizes-next.ensures.next,
        ap (λ n. size (plain n)) c.node-item.is,
        ap sizes (plains-drop c.args.nodes.now c.nodes.node-index c.node-item.result c.nodes-test.true),
      );
  written =
      written_more c.args.nodes.now c.nodes.node-index _ _ _ _ _ c.node-item.result c.nodes-test.true c.node-item.is
      c.nodes.invariant.written c.write_sizes-next.ensures.written;
}

pub write_all_sizes-nodes-init : goal.write_all_sizes-nodes-init
write_all_sizes-nodes-init g t c = record { left = refl; written = refl }

pub write_all_sizes-returns : goal.write_all_sizes-returns
write_all_sizes-returns g t c = record {
  next = omega (arith, c.nodes.invariant.left, ap sizes (plains-end c.args.nodes.now c.nodes.node-index c.nodes-test.false));
  written = written_all c.args.nodes.now c.nodes.node-index _ _ _ c.nodes-test.false c.nodes.invariant.written;
}

pub write_sizes-write_sizes-next-requires : goal.write_sizes-write_sizes-next-requires
write_sizes-write_sizes-next-requires g t c κs within =
    let whole = size-decorated (plain c.args.self.now) (plain c.in-Some.child.now) c.in-Some.ensures in
    (omega (arith, whole), (within, omega (arith, whole, c.requires)))

pub write_sizes-write_all_sizes-next-requires : goal.write_sizes-write_all_sizes-next-requires
write_sizes-write_all_sizes-next-requires g t c κs within =
    let whole = size-listed (plain c.args.self.now) c.in-None.ensures in
    let is = ap sizes c.listed.ensures in
    (omega (arith, whole, is), (within, omega (arith, whole, is, c.requires)))

pub write_sizes-write_size-requires : goal.write_sizes-write_size-requires
write_sizes-write_size-requires g t c =
    let below : Below (plain c.args.self.now) c.args.at c.match-decorated.next c.args.table.now c.match-decorated.table =
    elim c.match-decorated.branch [
      | write_sizes-in-Some w ↦
          below_decorated _ _ _ _ _ _ _ w.next-is w.table-is (plain w.in-Some.child.now) w.in-Some.ensures
          w.write_sizes-next.ensures.next w.write_sizes-next.ensures.written
      | write_sizes-in-None w ↦
          below_listed _ _ _ _ _ _ _ w.next-is w.table-is (plains w.listed.result.now) w.in-None.ensures w.listed.ensures
          w.write_all_sizes-next.ensures.next w.write_all_sizes-next.ensures.written
    ] in
    let least = one-le-size (plain c.args.self.now) in
    record { some = omega (arith, below.behind, least); room = omega (arith, below.behind, c.requires) }

pub write_sizes-returns : goal.write_sizes-returns
write_sizes-returns g t c =
    let below : Below (plain c.args.self.now) c.args.at c.match-decorated.next c.args.table.now c.match-decorated.table =
    elim c.match-decorated.branch [
      | write_sizes-in-Some w ↦
          below_decorated _ _ _ _ _ _ _ w.next-is w.table-is (plain w.in-Some.child.now) w.in-Some.ensures
          w.write_sizes-next.ensures.next w.write_sizes-next.ensures.written
      | write_sizes-in-None w ↦
          below_listed _ _ _ _ _ _ _ w.next-is w.table-is (plains w.listed.result.now) w.in-None.ensures w.listed.ensures
          w.write_all_sizes-next.ensures.next w.write_all_sizes-next.ensures.written
    ] in
    let room : c.args.at < length c.args.table.now = omega (arith, c.requires, c.told-table, one-le-size (plain c.args.self.now)) in
    record { next = below.behind; written = own_written (plain c.args.self.now) _ _ _ _ _ below c.write_size.ensures room }
