-- What a worker's work came to is of its game.
use Rattle.std.specs.Prelude.{◌≡◌, IfSome}
use Rattle.game_rules.specs.Game.{Game}
use Rattle.frame_params.specs.BoardSteps.{told, band_drawn, IsToldIn}
use Rattle.frame_params.specs.declared.step.Step.{Step}

-- what a board is told of it, and the band where one was drawn
abbrev pub IsWorkIn : Game → Step → Type 0
IsWorkIn g step = IsToldIn g (told step) × IfSome (band_drawn step) (λ band. band.game ≡ g)
