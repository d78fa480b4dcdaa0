use Rattle.std.proofs.Common.{◌≡◌, ◌++◌, ◌-◌, length}
use Rattle.std.specs.List.{flat_map}
use Rattle.grid_world.specs.Map.{count_up}
use Rattle.stepping.specs.StateText.{line_of, agent_lines}
use Rattle.stepping.proofs.state_text.push_agents.Given as goal

abbrev pub invariant-agents : goal.invariant-agents
invariant-agents l =
    l.text.items ++ flat_map (line_of l.game.position l.game.answers) (count_up l.number (length l.game.position.world.agents - l.number))
    ≡ l.initial.text.items ++ agent_lines l.game.position l.game.answers
