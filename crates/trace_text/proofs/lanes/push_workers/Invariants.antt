use Rattle.std.proofs.Common.{◌≡◌, ◌++◌}
use Rattle.trace_text.specs.Trace.{workers_text}
use Rattle.trace_text.proofs.lanes.push_workers.Given as goal

abbrev pub invariant-workers : goal.invariant-workers
invariant-workers l = l.text.items ≡ l.initial.text.items ++ workers_text l.worker
