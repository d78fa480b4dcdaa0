use Rattle.std.proofs.Common.{◌≡◌, ◌∙◌, Some, unwrap_or, sym, ap}
use Rattle.counters.specs.Keys.{counter_of}
use Rattle.board_model.specs.Board.{with_waiter}
use Rattle.counters.specs.declared.counters.CounterFault.TheVariants.{OutOfMemory}
use Rattle.counters.specs.Rows.{left_in}
use Rattle.counters.specs.Faults.{absent_fault}
use Rattle.counters.proofs.Changes.{none_there, row_there, changed_there, on_ok}
use Rattle.counters.proofs.counters.Counters.wait.Goals as goal

pub returns-in_default-clause-fault : goal.returns-in_default-clause-fault
returns-in_default-clause-fault c = rw (← c.self.view_is) (sym (ap (λ row. unwrap_or (absent_fault row) OutOfMemory) (none_there (counter_of c.args.key) c.deref.result.now c.self.inside.all.items c.deref.ensures.value c.in_default.ensures)))

pub returns-clause-answer : goal.returns-clause-answer
returns-clause-answer c =
    rw (← c.self.view_is) (
      λ zero. let there = row_there (counter_of c.args.key) c.deref.result.now c.self.inside.all.items c.deref.ensures.value c.in-Some.at c.index_mut-counter.result.now c.in-Some.ensures c.index_mut-counter.ensures.value in
          c.if-left-eq0.false (c.left.ensures ∙ (let e : Some c.index_mut-counter.result.now.left ≡ Some 0 = sym (ap left_in there) ∙ zero in cc)),
      changed_there (counter_of c.args.key) c.deref.result.now c.self.inside.all.items c.deref.ensures.value (with_waiter c.args.fiber) c.in-Some.at c.index_mut-counter.result.now c.wait.new.self c.in-Some.ensures c.index_mut-counter.ensures.value (on_ok c.wait.result c.if-is_err.ensures.negation c.wait.ensures.ok),
    )
