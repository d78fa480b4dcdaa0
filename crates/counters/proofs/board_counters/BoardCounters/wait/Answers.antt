use Rattle.std.proofs.Common.{refl}
use Rattle.counters.specs.Keys.{counter_of}
use Rattle.board_model.specs.Board.{with_waiter}
use Rattle.counters.proofs.Changes.{none_there, changed_there}
use Rattle.counters.proofs.Unique.{unique_if, on_ok_then}
use Rattle.counters.proofs.board_counters.BoardCounters.wait.Goals as goal

pub unreachable-requires : goal.unreachable-requires
unreachable-requires c = rw (none_there (counter_of c.args.key) c.deref.result.now c.self.inside.all.items c.deref.ensures.value c.in_default.ensures) at (rw (← c.self.view_is) at c.requires)

pub invariant_of-self : goal.invariant_of-self
invariant_of-self c = unique_if (counter_of c.args.key) c.deref.result.now c.self.inside.all.items c.deref.ensures.value (with_waiter c.args.fiber) (λ row. refl) c.in-Some.at c.index_mut.result.now c.wait.new.self c.in-Some.ensures c.index_mut.ensures.value c.wait.result c.wait.ensures.ok c.wait.ensures.unchanged c.self.invariant

pub returns-clause-kept : goal.returns-clause-kept
returns-clause-kept c =
    rw (← c.self.view_is) (on_ok_then c.wait.result (λ e. changed_there (counter_of c.args.key) c.deref.result.now c.self.inside.all.items c.deref.ensures.value (with_waiter c.args.fiber) c.in-Some.at c.index_mut.result.now c.wait.new.self c.in-Some.ensures c.index_mut.ensures.value e) c.wait.ensures.ok)
