use Rattle.std.proofs.Common.{◌≡◌, ◌≤◌, ◌-◌}
use Rattle.game_rules.specs.Game.{Game}
use Rattle.commands.specs.Opening.{IsSteppedTo}
use Rattle.commands.proofs.opening.step_all.Given as goal

abbrev pub invariant-frames : goal.invariant-frames
invariant-frames l = record {
  within : l.game.frame ≤ l.frames;
  trees : l.game.game.trees ≡ l.initial.game.game.trees;
  goes : (g : Game) → IsSteppedTo g 0 l.initial.game → IsSteppedTo g l.game.frame l.game;
}

abbrev pub decreases-frames : goal.decreases-frames
decreases-frames l = l.frames - l.game.frame
