use Rattle.std.proofs.Common.{◌≡◌, replicate, None}
use Rattle.frame_state.proofs.slots.Slots.new.Given as goal

-- as many as were pushed
abbrev pub invariant-places : goal.invariant-places
invariant-places l = l.places.items ≡ replicate l._made None
