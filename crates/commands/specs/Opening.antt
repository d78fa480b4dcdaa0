-- A game that is stepped by a script, where the two are.
use Rattle.std.specs.Prelude.{ℕ, ◌≡◌}
use Rattle.game_rules.specs.Game.{Game, signals}
use Rattle.stepping.specs.Played.{Played, next_signals, IsByScript, IsPlayed, scripted_game}
use Rattle.stepping.specs.StateText.{handed_in}

-- stepped so far by the script of this game, whose signals stay
pub record IsSteppedTo (g : Game) (f : ℕ) (p : Played) : Type 0 where
  pub frame : p.frame ≡ f
  pub by : IsByScript p
  pub played : IsPlayed p
  pub game : scripted_game p ≡ g
  pub shown : signals p.game.changes p.frame ≡ handed_in g.changes f
  pub next : next_signals p ≡ handed_in g.changes f
