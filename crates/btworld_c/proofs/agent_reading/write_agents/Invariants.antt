use Rattle.std.proofs.Common.{◌≡◌, ℕ, ◌<◌, get_or}
use Rattle.btworld_c.specs.declared.game.Agent.{Agent}
use Rattle.btworld_c.specs.Agents.{agent_seen}
use Rattle.btworld_c.proofs.agent_reading.write_agents.Given as goal

abbrev pub invariant-agents : goal.invariant-agents
invariant-agents l = (k : ℕ) (d : Agent) → k < l.number → get_or l.agents k d ≡ agent_seen l.held k
