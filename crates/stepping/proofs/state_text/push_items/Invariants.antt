use Rattle.std.proofs.Common.{◌≡◌, ◌++◌, ◌-◌}
use Rattle.std.specs.List.{flat_map}
use Rattle.grid_world.specs.Map.{count_up}
use Rattle.stepping.specs.StateText.{item_line, item_lines}
use Rattle.stepping.proofs.state_text.push_items.Given as goal

abbrev pub invariant-rows : goal.invariant-rows
invariant-rows l =
    l.text.items ++ flat_map (λ y. flat_map (item_line l.world y) (count_up 0 l.world.width)) (count_up l.y (l.world.height - l.y))
    ≡ l.initial.text.items ++ item_lines l.world
