use Rattle.std.proofs.Common.{◌≡◌, drop, option_map}
use Rattle.serde_json.specs.View.{items_view}
use Rattle.level_text.specs.Nodes.{forest_in}
use Rattle.level_text.proofs.NodesBefore.{forest_before}
use Rattle.level_text.proofs.nodes.+nodes.Given as goal

abbrev pub invariant-list_of-values : goal.invariant-list_of-values
invariant-list_of-values l = option_map (forest_before l.nodes.items) (forest_in (items_view (drop l.value-index l.values))) ≡ forest_in (items_view l.values)
