use Rattle.std.proofs.Common.{◌≡◌, ◌+◌, ◌*◌, ◌++◌, take, drop}
use Rattle.bt_nodes.specs.Plain.{plain, plains}
use Rattle.bt_nodes.specs.Sizes.{size, sizes, subtree_sizes_all}
use Rattle.bt_nodes.proofs.node.Node.+write_sizes.Given as goal

abbrev pub decreases-write_sizes : goal.decreases-write_sizes
decreases-write_sizes g l = 2 * size (plain l.self.now)

abbrev pub decreases-write_all_sizes : goal.decreases-write_all_sizes
decreases-write_all_sizes g l = 2 * sizes (plains l.nodes.now) + 1

abbrev pub invariant-write_all_sizes-nodes : goal.invariant-write_all_sizes-nodes
invariant-write_all_sizes-nodes g l = record {
  left : l.next + sizes (plains (drop l.node-index l.nodes)) ≡ l.fn.at + sizes (plains l.nodes);
  written :
      take l.next l.table ++ subtree_sizes_all (plains (drop l.node-index l.nodes))
      ≡ take l.fn.at l.fn.table ++ subtree_sizes_all (plains l.nodes);
}
