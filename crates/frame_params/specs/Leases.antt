-- What a worker keeps of the tasks that it has done.
use Rattle.std.specs.Prelude.{ℕ, ◌≡◌, ◌==◌, IfSome, Option, Some, None, if◌then◌else◌, option_and_then, option_map}
use Rattle.std.specs.Arc.{arc_value}
use Rattle.game_rules.specs.Game.{Game}
use Rattle.frame_state.specs.Names.{FrameOf}
use Rattle.frame_params.specs.declared.lease.Lease.{Lease}

-- all that is kept is of this game
pub record IsLeaseOf (g : Game) (l : Lease) : Type 0 where
  pub start : IfSome l.start (λ s. (arc_value s).game ≡ g)
  pub world : IfSome l.world (λ w. w.game ≡ g)

-- what is kept, where it is of this frame
abbrev pub of_frame : ℕ → Option FrameOf → Option FrameOf
of_frame f kept = option_and_then (λ p. if p.frame == f then Some p else None) kept

abbrev pub start_for : Lease → ℕ → Option FrameOf
start_for l f = of_frame f (option_map (λ s. arc_value s) l.start)

abbrev pub world_for : Lease → ℕ → Option FrameOf
world_for l f = of_frame f l.world
