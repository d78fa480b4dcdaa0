use Rattle.std.proofs.Common.{◌≡◌, ◌+◌, drop}
use Rattle.trace_text.specs.Slices.{until, next_of}
use Rattle.trace_text.proofs.worker_slices.ahead.Given as goal

abbrev pub invariant-events : goal.invariant-events
invariant-events l = (l.count + until l.worker (drop l.count l.events) ≡ until l.worker l.events) × (next_of l.worker (drop l.count l.events) ≡ next_of l.worker l.events)
