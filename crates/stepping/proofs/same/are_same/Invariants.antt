use Rattle.std.proofs.Common.{◌≡◌, take}
use Rattle.stepping.proofs.same.are_same.Given as goal

-- those so far are the same
abbrev pub invariant-nodes : goal.invariant-nodes
invariant-nodes l = take l.node l.memory ≡ take l.node l.other
