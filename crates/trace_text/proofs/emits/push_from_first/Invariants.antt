use Rattle.std.proofs.Common.{◌≡◌, ◌++◌, drop}
use Rattle.trace_text.specs.Trace.{emits_from}
use Rattle.trace_text.proofs.emits.push_from_first.Given as goal

abbrev pub invariant-events : goal.invariant-events
invariant-events l = l.text.items ++ emits_from l.thread l.span l.at (drop l.at l.events) ≡ l.initial.text.items ++ emits_from l.thread l.span 0 l.events
