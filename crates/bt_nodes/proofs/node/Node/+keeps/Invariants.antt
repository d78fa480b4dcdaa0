use Rattle.std.proofs.Common.{◌≡◌, ◌+◌, ◌*◌, drop}
use Rattle.bt_nodes.specs.Plain.{plain, plains}
use Rattle.bt_nodes.specs.Sizes.{size, sizes}
use Rattle.bt_nodes.specs.Limits.{all_keep}
use Rattle.bt_nodes.proofs.node.Node.+keeps.Given as goal

abbrev pub decreases-keeps : goal.decreases-keeps
decreases-keeps g l = 2 * size (plain l.self.now)

abbrev pub decreases-all_keep : goal.decreases-all_keep
decreases-all_keep g l = 2 * sizes (plains l.nodes.now) + 1

abbrev pub invariant-all_keep-nodes : goal.invariant-all_keep-nodes
invariant-all_keep-nodes g l = all_keep l.limit (plains (drop l.node-index l.nodes)) ≡ all_keep l.limit (plains l.nodes)
