use Rattle.std.proofs.Common.{◌≡◌, ◌-◌, []}
use Rattle.stepping.specs.StateReading.{memory_from}
use Rattle.stepping.proofs.state_lines.memory.Given as goal

abbrev pub invariant-nodes : goal.invariant-nodes
invariant-nodes l = memory_from l.numbers.items (l.size - l.node) l.rest ≡ memory_from [] l.size l.text
