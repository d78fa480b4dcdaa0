use Rattle.std.proofs.Common.{◌≡◌, ◌<◌, ℕ, take}
use Rattle.game_rules.specs.Game.{signals}
use Rattle.stepping.specs.Played.{IsTurnedBy}
use Rattle.stepping.proofs.turns.turn_all.Given as goal

abbrev pub invariant-signals : goal.invariant-signals
invariant-signals l = record {
  turned : IsTurnedBy l.frame l.changes.items l.now;
  same : take l.number l.now ≡ take l.number l.wanted;
  earlier : (k : ℕ) → k < l.frame → signals l.changes.items k ≡ signals l.initial.changes.items k;
}
