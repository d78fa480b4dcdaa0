-- A game that is spelled, and jobs that run once.
use Rattle.std.proofs.Common.{◌≡◌, ℕ, List, Option, Some, sym, subst}
use Rattle.std.specs.Prelude.{IsSomeAnd}
use Rattle.game_rules.specs.Game.{Game}
use Rattle.job_scheduler.specs.Numbers.{Numbers}
use Rattle.play_run.specs.Plays.{IsPlayed}
use Rattle.play_run.specs.declared.report.RunReport.{RunReport}
use Rattle.level_text.specs.Games.{spelled_game}

-- a run on the game that is spelled is one of it
pub played : (old new : Option (List ℕ)) (level script : List ℕ) (session : Game) (n : Numbers) (r : RunReport) → spelled_game level script ≡ Some session
    → IsPlayed old new session n r → IsSomeAnd (spelled_game level script) (λ g. IsPlayed old new g n r)
played old new level script session n r spells p = subst (λ o. IsSomeAnd o (λ g. IsPlayed old new g n r)) (sym spells) p
