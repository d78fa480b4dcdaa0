-- A view as plain data.
use Rattle.std.specs.Prelude.{◌≡◌, ◌<◌, ℕ, Bool, false, nat_le, length}
use Rattle.game_rules.specs.View.{View as PlainView, is_near}
use Rattle.bt_tick.specs.declared.nearest.Nearest.{Nearest}
use Rattle.bt_tick.specs.declared.nearest.Nearest.TheVariants.{Unknown, Alone, Away}
use Rattle.bt_tick.specs.declared.view.View.{View}

abbrev pub view_of : View → PlainView
view_of v = record { world = v.world.now; signals = v.signals; agent = v.agent }

-- the agent is in the world
abbrev pub IsInWorld : View → Type 0
IsInWorld v = v.agent < length v.world.now.agents

-- whether the nearest other agent is at most n columns and rows away
abbrev pub reaches : Nearest → ℕ → Bool
reaches (Away d) n = nat_le d n
reaches _ n = false

-- it is the nearest other agent of a view
abbrev pub Tells : PlainView → Nearest → Type 0
Tells v near = (n : ℕ) → is_near v n ≡ reaches near n

abbrev pub IsNearestIn : PlainView → Nearest → Type 0
IsNearestIn v Unknown = Unit {0}
IsNearestIn v Alone = Tells v Alone
IsNearestIn v (Away d) = Tells v (Away d)
