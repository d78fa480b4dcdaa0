use Rattle.counters.specs.Keys.{counter_of}
use Rattle.counters.proofs.Unique.{unique_without}
use Rattle.counters.proofs.board_counters.BoardCounters.cancel.Goals as goal

pub invariant_of-self : goal.invariant_of-self
invariant_of-self c = unique_without (counter_of c.args.key) c.deref.result.now c.self.inside.all.items c.deref.ensures.value c.in-Some.at c.remove-cancelled.new.self.items c.in-Some.ensures c.remove-cancelled.ensures.items c.self.invariant
