use Rattle.std.proofs.Common.{◌≡◌, drop, map}
use Rattle.bt_nodes.specs.Sizes.{size}
use Rattle.game_session.specs.Levels.{value_of, agent_trees}
use Rattle.stepping.specs.StateReading.{no_crew, crew_from}
use Rattle.stepping.proofs.state_lines.agent_lines.Given as goal

abbrev pub invariant-agents : goal.invariant-agents
invariant-agents l =
    crew_from (record { agents = l.agents.items; answers = l.answers.items; memories = l.memories.items }) (drop l.number (map size (agent_trees (value_of l.level)))) l.rest
    ≡ crew_from no_crew (map size (agent_trees (value_of l.level))) l.text
