use Rattle.std.proofs.Common.{take}
use Rattle.grid_world.specs.World.{AreApart}
use Rattle.grid_world.proofs.world.furnish.are_apart.Given as goal

abbrev pub invariant-agents : goal.invariant-agents
invariant-agents l = AreApart (take l.number l.agents)
