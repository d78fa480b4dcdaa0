use Rattle.std.proofs.Common.{◌≡◌, ◌+◌, ◌*◌, map, take}
use Rattle.bt_nodes.specs.Plain.{plain, plains}
use Rattle.bt_nodes.specs.Sizes.{size, sizes}
use Rattle.bt_nodes.proofs.node.Node.+copy.Given as goal

abbrev pub decreases-copy_in : goal.decreases-copy_in
decreases-copy_in g l = 2 * size (plain l.self.now)

abbrev pub decreases-copies_in : goal.decreases-copies_in
decreases-copies_in g l = 2 * sizes (plains l.nodes.now) + 1

abbrev pub invariant-copies_in-nodes : goal.invariant-copies_in-nodes
invariant-copies_in-nodes g l = map plain l.copies.items ≡ map plain (take l.node-index l.nodes)
