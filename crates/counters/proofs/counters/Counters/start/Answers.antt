use Rattle.std.proofs.Common.{◌∙◌, unwrap_or, sym, ap}
use Rattle.counters.specs.Keys.{counter_of}
use Rattle.counters.specs.declared.counters.CounterFault.TheVariants.{OutOfMemory}
use Rattle.counters.proofs.Changes.{busy_there}
use Rattle.counters.proofs.counters.Counters.start.Goals as goal

pub returns-then-is_some-clause-fault : goal.returns-then-is_some-clause-fault
returns-then-is_some-clause-fault c =
    rw (← c.self.view_is) (ap (λ fault. unwrap_or fault OutOfMemory) (busy_there (counter_of c.args.key) c.deref.result.now c.self.inside.all.items c.deref.ensures.value c.place.result c.place.ensures (sym c.is_some.ensures ∙ c.if-is_some.true)))
