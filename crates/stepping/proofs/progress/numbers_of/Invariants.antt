use Rattle.std.proofs.Common.{◌≡◌, take}
use Rattle.stepping.proofs.progress.numbers_of.Given as goal

abbrev pub invariant-nodes : goal.invariant-nodes
invariant-nodes l = l.numbers.items ≡ take l.node l.memory
