use Rattle.std.proofs.Common.{◌≡◌, ◌+◌, ◌*◌, drop}
use Rattle.std.specs.List.{list_all}
use Rattle.bt_nodes.specs.Plain.{plain, plains}
use Rattle.bt_nodes.specs.Sizes.{size, sizes}
use Rattle.level_text.specs.Named.{named_in, is_found}
use Rattle.level_text.proofs.named.+named.Given as goal

abbrev pub decreases-has_named : goal.decreases-has_named
decreases-has_named l = 2 * size (plain l.node.now)

abbrev pub decreases-have_named : goal.decreases-have_named
decreases-have_named l = 2 * sizes (plains l.nodes.now) + 1

abbrev pub invariant-have_named-nodes : goal.invariant-have_named-nodes
invariant-have_named-nodes l =
    list_all (is_found l.what l.world) (named_in l.what (plains (drop l.node-index l.nodes))) ≡ list_all (is_found l.what l.world) (named_in l.what (plains l.nodes))
