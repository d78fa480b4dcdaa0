use Rattle.std.proofs.Common.{◌≡◌, ◌++◌, ◌-◌}
use Rattle.std.specs.List.{flat_map}
use Rattle.grid_world.specs.Map.{count_up}
use Rattle.stepping.specs.StateText.{item_line}
use Rattle.stepping.proofs.state_text.push_row.Given as goal

abbrev pub invariant-cells : goal.invariant-cells
invariant-cells l =
    l.text.items ++ flat_map (item_line l.world l.y) (count_up l.x (l.world.width - l.x))
    ≡ l.initial.text.items ++ flat_map (item_line l.world l.y) (count_up 0 l.world.width)
