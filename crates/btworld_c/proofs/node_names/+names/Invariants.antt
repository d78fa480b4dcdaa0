use Rattle.std.proofs.Common.{◌≡◌, ◌+◌, ◌*◌, ◌++◌, drop}
use Rattle.bt_nodes.specs.Plain.{plain, plains}
use Rattle.bt_nodes.specs.Sizes.{size, sizes}
use Rattle.btworld_c.specs.NodeNames.{forest_names}
use Rattle.btworld_c.proofs.node_names.+names.Given as goal

abbrev pub decreases-push_names : goal.decreases-push_names
decreases-push_names l = 2 * size (plain l.node.now)

abbrev pub decreases-push_forest : goal.decreases-push_forest
decreases-push_forest l = 2 * sizes (plains l.nodes.now) + 1

abbrev pub invariant-push_forest-nodes : goal.invariant-push_forest-nodes
invariant-push_forest-nodes l = l.text.items ++ forest_names (plains (drop l.node-index l.nodes)) l.depth ≡ l.initial.text.items ++ forest_names (plains l.nodes) l.depth
