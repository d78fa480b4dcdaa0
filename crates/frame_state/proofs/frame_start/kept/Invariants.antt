use Rattle.std.proofs.Common.{◌≡◌, ◌++◌}
use Rattle.frame_state.proofs.frame_start.kept.Given as goal

abbrev pub invariant-memories : goal.invariant-memories
invariant-memories l = l.them.items ++ l.memory-iterator.rest.items ≡ l.fn.memories.items
