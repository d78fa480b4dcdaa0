use Rattle.std.proofs.Common.{◌≡◌, ◌++◌, drop}
use Rattle.trace_text.specs.Slices.{slices_from, slices_of}
use Rattle.trace_text.proofs.worker_slices.slices_of.Given as goal

abbrev pub invariant-events : goal.invariant-events
invariant-events l = l.slices.items ++ slices_from l.index (drop l.index l.events) ≡ slices_of l.events
