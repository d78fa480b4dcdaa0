use Rattle.std.proofs.Common.{◌≡◌, min, ◌+◌, ◌*◌, ◌≤◌, drop}
use Rattle.bt_nodes.specs.Plain.{plain, plains}
use Rattle.bt_nodes.specs.Sizes.{size, sizes}
use Rattle.bt_nodes.proofs.node.Node.+size.Given as goal

abbrev pub decreases-size_to : goal.decreases-size_to
decreases-size_to g l = 2 * size (plain l.self.now)

abbrev pub decreases-sizes_to : goal.decreases-sizes_to
decreases-sizes_to g l = 2 * sizes (plains l.nodes.now) + 1

abbrev pub invariant-sizes_to-nodes : goal.invariant-sizes_to-nodes
invariant-sizes_to-nodes g l = record {
  fits : l.total ≤ l.most;
  left :
      min (l.total + sizes (plains (drop l.node-index l.nodes))) l.most
      ≡ min (sizes (plains l.nodes)) l.most;
}
