use Rattle.std.proofs.Common.{◌≡◌, ◌++◌, drop}
use Rattle.stepping.specs.StateText.{memory_text}
use Rattle.stepping.proofs.state_text.push_memory.Given as goal

abbrev pub invariant-nodes : goal.invariant-nodes
invariant-nodes l = l.text.items ++ memory_text (drop l.node l.memory) ≡ l.initial.text.items ++ memory_text l.memory
