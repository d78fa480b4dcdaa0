use Rattle.std.proofs.Common.{◌≡◌, ◌++◌, drop}
use Rattle.stepping.proofs.agent_memory.numbers_of.Given as goal

abbrev pub invariant-nodes : goal.invariant-nodes
invariant-nodes l = l.numbers.items ++ drop l.node l.memory ≡ l.memory
