use Rattle.std.proofs.Common.{◌≡◌, ℕ, drop}
use Rattle.std.specs.Prelude.{◌||◌}
use Rattle.game_rules.specs.View.{is_near, is_near_any}
use Rattle.bt_tick.specs.Views.{view_of, reaches}
use Rattle.bt_tick.proofs.view.View.nearest.Given as goal

abbrev pub invariant-agents : goal.invariant-agents
invariant-agents l = (n : ℕ) → (reaches l.nearest n || is_near_any (view_of l.self) n l.number (drop l.number l.self.world.now.agents)) ≡ is_near (view_of l.self) n
