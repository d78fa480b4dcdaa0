use Rattle.std.proofs.Common.{◌≡◌, ◌+◌, ◌*◌, map, take}
use Rattle.bt_nodes.specs.Plain.{plain, plains}
use Rattle.bt_nodes.specs.Sizes.{size, sizes}
use Rattle.bt_nodes.proofs.node.Node.+same.Given as goal

abbrev pub decreases-is_same : goal.decreases-is_same
decreases-is_same g l = 2 * size (plain l.self.now)

abbrev pub decreases-are_same : goal.decreases-are_same
decreases-are_same g l = 2 * sizes (plains l.nodes.now) + 1

-- those so far are the same
abbrev pub invariant-are_same-nodes : goal.invariant-are_same-nodes
invariant-are_same-nodes g l = map plain (take l.i l.nodes) ≡ map plain (take l.i l.others)
