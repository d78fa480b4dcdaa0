use Rattle.std.proofs.Common.{sym, ap}
use Rattle.counters.specs.Keys.{counter_of}
use Rattle.counters.specs.Faults.{absent_fault}
use Rattle.counters.proofs.Changes.{none_there}
use Rattle.counters.proofs.counters.Counters.cancel.Goals as goal

pub returns-in_default-clause-fault : goal.returns-in_default-clause-fault
returns-in_default-clause-fault c = rw (← c.self.view_is) (sym (ap absent_fault (none_there (counter_of c.args.key) c.deref.result.now c.self.inside.all.items c.deref.ensures.value c.in_default.ensures)))
