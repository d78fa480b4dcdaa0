use Rattle.std.proofs.Common.{◌≡◌, length, map, take}
use Rattle.game_rules.specs.Play.{thoughts_from}
use Rattle.btworld_c.proofs.thinking.intents.Given as goal

abbrev pub invariant-agents : goal.invariant-agents
invariant-agents l = record {
  intents : l.them.items ≡ map (λ t. t.intent) (take l.agent (thoughts_from l.held.position.world l.signals 0 l.held.game.trees l.held.position.memories));
  count : length l.them.items ≡ l.agent;
}
