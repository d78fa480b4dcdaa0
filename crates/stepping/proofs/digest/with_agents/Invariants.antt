use Rattle.std.proofs.Common.{◌≡◌, drop}
use Rattle.std.specs.List.{flat_map}
use Rattle.stepping.specs.Digest.{fnv_all, agent_bytes}
use Rattle.stepping.proofs.digest.with_agents.Given as goal

abbrev pub invariant-agents : goal.invariant-agents
invariant-agents l = fnv_all l.so_far (flat_map agent_bytes (drop l.agent-index l.agents)) ≡ fnv_all l.hash (flat_map agent_bytes l.agents)
