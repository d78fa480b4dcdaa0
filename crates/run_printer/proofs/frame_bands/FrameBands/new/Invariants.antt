use Rattle.std.proofs.Common.{◌≡◌, replicate, None}
use Rattle.run_printer.proofs.frame_bands.FrameBands.new.Given as goal

-- as many as were pushed
abbrev pub invariant-loop-number : goal.invariant-loop-number
invariant-loop-number g l = l.places.items ≡ replicate l._number None
