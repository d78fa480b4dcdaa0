use Rattle.std.proofs.Common.{◌≡◌, ◌≤◌, ◌+◌, ◌-◌, ◌++◌}
use Rattle.std.specs.List.{flat_map}
use Rattle.grid_world.specs.Map.{count_up}
use Rattle.game_rules.specs.Game.{Game}
use Rattle.stepping.specs.Digest.{digest_of}
use Rattle.commands.specs.Opening.{IsSteppedTo}
use Rattle.commands.specs.Texts.{state_after, digest_line, digest_lines}
use Rattle.commands.proofs.digests.push_lines.Given as goal

abbrev pub invariant-frames : goal.invariant-frames
invariant-frames l = record {
  within : l.game.frame ≤ l.frames;
  goes : (g : Game) → IsSteppedTo g 0 l.initial.game → IsSteppedTo g l.game.frame l.game;
  text : (g : Game) → IsSteppedTo g 0 l.initial.game
      → l.text.items ++ flat_map (λ f. digest_line f (digest_of (state_after g f))) (count_up (l.game.frame + 1) (l.frames + 1 - (l.game.frame + 1)))
      ≡ l.initial.text.items ++ digest_lines g l.frames;
}

abbrev pub decreases-frames : goal.decreases-frames
decreases-frames l = l.frames - l.game.frame
