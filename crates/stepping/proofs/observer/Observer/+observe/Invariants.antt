use Rattle.std.proofs.Common.{◌+◌, ◌*◌}
use Rattle.bt_nodes.specs.Plain.{plain, plains}
use Rattle.bt_nodes.specs.Sizes.{size, sizes}
use Rattle.stepping.proofs.observer.Observer.+observe.Given as goal

abbrev pub decreases-observe : goal.decreases-observe
decreases-observe l = 4 * size (plain l.node.now) + 1

abbrev pub decreases-tick : goal.decreases-tick
decreases-tick l = 4 * size (plain l.node.now)

abbrev pub decreases-count : goal.decreases-count
decreases-count l = 4 * size (plain l.child.now) + 2

abbrev pub decreases-line : goal.decreases-line
decreases-line l = 4 * sizes (plains l.nodes.now) + 2

abbrev pub decreases-star : goal.decreases-star
decreases-star l = 4 * sizes (plains l.nodes.now) + 2

abbrev pub decreases-all : goal.decreases-all
decreases-all l = 4 * sizes (plains l.nodes.now) + 2
