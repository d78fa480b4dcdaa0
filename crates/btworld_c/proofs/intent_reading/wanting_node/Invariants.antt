use Rattle.std.proofs.Common.{ℕ, ◌<◌}
use Rattle.btworld_c.specs.Intents.{Wants}
use Rattle.btworld_c.proofs.intent_reading.wanting_node.Given as goal

abbrev pub invariant-nodes : goal.invariant-nodes
invariant-nodes l = (k : ℕ) → k < l.number → Wants l.acts l.answers k → ⊥
