use Rattle.std.proofs.Common.{◌≡◌, ◌+◌, ◌*◌, drop}
use Rattle.bt_nodes.specs.Plain.{plain, plains}
use Rattle.bt_nodes.specs.Sizes.{size, sizes}
use Rattle.bt_nodes.specs.Bounds.{bounds_all}
use Rattle.bt_tick.specs.Fitting.{behind}
use Rattle.bt_tick.proofs.fits.+behind.Given as goal

abbrev pub decreases-behind : goal.decreases-behind
decreases-behind g l = 2 * size (plain l.node.now)

abbrev pub decreases-behind_all : goal.decreases-behind_all
decreases-behind_all g l = 2 * sizes (plains l.nodes.now) + 1

abbrev pub invariant-behind_all-nodes : goal.invariant-behind_all-nodes
invariant-behind_all-nodes g l =
    behind (bounds_all (plains (drop l.node-index l.nodes))) l.left ≡ behind (bounds_all (plains l.nodes)) l.numbers
