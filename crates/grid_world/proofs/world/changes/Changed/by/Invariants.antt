use Rattle.std.proofs.Common.{◌≡◌, drop, length}
use Rattle.grid_world.specs.Intents.{apply_all}
use Rattle.grid_world.proofs.world.changes.Changed.by.Given as goal

abbrev pub invariant-agents : goal.invariant-agents
invariant-agents l =
    (length l.after.0.agents ≡ length l.world.agents)
    × (l.after.1 ≡ l.world.items)
    × (apply_all l.after.0 l.signals l.number (drop l.number l.intents)
    ≡ apply_all l.world l.signals 0 l.intents)
