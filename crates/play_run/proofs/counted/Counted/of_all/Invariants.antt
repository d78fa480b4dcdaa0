use Rattle.std.proofs.Common.{take, vec_items}
use Rattle.play_run.specs.Reports.{counts_for, AreCountsOf}
use Rattle.play_run.proofs.counted.Counted.of_all.Given as goal

abbrev pub invariant-events : goal.invariant-events
invariant-events l = AreCountsOf (counts_for l.fn.self) l.fn.workers (take l.event-index l.events) (vec_items l.all)
