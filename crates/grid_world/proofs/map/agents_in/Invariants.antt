use Rattle.std.proofs.Common.{◌≡◌, ◌-◌, ◌++◌}
use Rattle.std.specs.List.{filter_map}
use Rattle.grid_world.specs.Map.{agent_in, count_up}
use Rattle.grid_world.proofs.map.agents_in.Given as goal

abbrev pub invariant-letters : goal.invariant-letters
invariant-letters l = l.agents.items ++ filter_map (agent_in l.width l.marks) (count_up l.k (26 - l.k))
    ≡ filter_map (agent_in l.width l.marks) (count_up 0 26)
