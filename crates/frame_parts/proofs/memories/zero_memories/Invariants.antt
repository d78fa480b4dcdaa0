use Rattle.std.proofs.Common.{◌≡◌, map, take, length}
use Rattle.bt_nodes.specs.Bounds.{zero_memory}
use Rattle.game_session.specs.Levels.{value_of, agent_trees}
use Rattle.frame_parts.proofs.Fitting.{FitSoFar}
use Rattle.frame_parts.proofs.memories.zero_memories.Given as goal

abbrev pub invariant-agents : goal.invariant-agents
invariant-agents l = record {
  zeros : l.memories.items ≡ map zero_memory (take l.agent (agent_trees (value_of l.level)));
  count : length l.memories.items ≡ l.agent;
  fit : FitSoFar (λ p. p) (agent_trees (value_of l.level)) l.memories.items l.agent;
}
