use Rattle.std.proofs.Common.{◌≡◌, take}
use Rattle.stepping.proofs.same.are_same_memories.Given as goal

-- those so far are the same
abbrev pub invariant-agents : goal.invariant-agents
invariant-agents l = take l.agent l.memories ≡ take l.agent l.others
