use Rattle.std.proofs.Common.{◌∙◌, sym, ap}
use Rattle.counters.specs.Keys.{counter_of}
use Rattle.counters.specs.Rows.{one_less}
use Rattle.counters.specs.Faults.{lower_fault}
use Rattle.counters.proofs.Changes.{none_there, changed_there, one_less_last, one_less_more}
use Rattle.counters.proofs.counters.Counters.lower.Goals as goal

pub returns-in_default-clause-fault : goal.returns-in_default-clause-fault
returns-in_default-clause-fault c = rw (← c.self.view_is) (sym (ap lower_fault (none_there (counter_of c.args.key) c.deref.result.now c.self.inside.all.items c.deref.ensures.value c.in_default.ensures)))

pub returns-then-left-eq1-clause-lowered : goal.returns-then-left-eq1-clause-lowered
returns-then-left-eq1-clause-lowered c =
    rw (← c.self.view_is) (changed_there (counter_of c.args.key) c.deref.result.now c.self.inside.all.items c.deref.ensures.value one_less c.in-Some.at c.index_mut-counter.result.now c.give_out.new.self c.in-Some.ensures c.index_mut-counter.ensures.value
    (c.give_out.ensures.emptied ∙ sym (one_less_last c.index_mut-counter.result.now (sym c.left-left.ensures ∙ c.if-left-eq1.true))))

pub returns-clause-lowered : goal.returns-clause-lowered
returns-clause-lowered c =
    rw (← c.self.view_is) (changed_there (counter_of c.args.key) c.deref.result.now c.self.inside.all.items c.deref.ensures.value one_less c.in-Some.at c.index_mut-counter.result.now c.lower.new.self c.in-Some.ensures c.index_mut-counter.ensures.value
    (c.lower.ensures ∙ sym (one_less_more c.index_mut-counter.result.now (λ e. c.if-left-eq1.false (c.left-left.ensures ∙ e)))))
