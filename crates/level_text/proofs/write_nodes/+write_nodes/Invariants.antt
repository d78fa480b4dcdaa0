use Rattle.std.proofs.Common.{◌≡◌, ◌+◌, ◌*◌, drop}
use Rattle.bt_nodes.specs.Plain.{plain, plains}
use Rattle.bt_nodes.specs.Sizes.{size, sizes}
use Rattle.level_text.specs.Marks.{all_have_marks}
use Rattle.level_text.specs.Written.{forest_data}
use Rattle.level_text.specs.Begun.{items_before}
use Rattle.level_text.proofs.write_nodes.+write_nodes.Given as goal

abbrev pub decreases-value_of : goal.decreases-value_of
decreases-value_of l = 2 * size (plain l.node.now)

abbrev pub decreases-push_all : goal.decreases-push_all
decreases-push_all l = 2 * sizes (plains l.nodes.now) + 1

abbrev pub invariant-push_all-nodes : goal.invariant-push_all-nodes
invariant-push_all-nodes l =
    (items_before l.values.items (forest_data (plains (drop l.node-index l.nodes))) ≡ items_before l.fn.values.items (forest_data (plains l.nodes)))
    × (all_have_marks (plains (drop l.node-index l.nodes)) ≡ all_have_marks (plains l.nodes))
