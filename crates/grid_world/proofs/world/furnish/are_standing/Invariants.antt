use Rattle.std.proofs.Common.{ℕ, ◌<◌, slice_index_or}
use Rattle.grid_world.specs.World.{IsStanding}
use Rattle.grid_world.specs.declared.cell.Agent.{Agent}
use Rattle.grid_world.proofs.world.furnish.are_standing.Given as goal

abbrev pub invariant-agents : goal.invariant-agents
invariant-agents l = (k : ℕ) (d : Agent) → k < l.agent-index → IsStanding l.ground (slice_index_or l.agents k d)
