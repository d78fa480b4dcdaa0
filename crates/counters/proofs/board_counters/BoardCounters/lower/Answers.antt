use Rattle.std.proofs.Common.{refl, arith}
use Rattle.counters.specs.Keys.{counter_of}
use Rattle.board_model.specs.Board.{lowered}
use Rattle.counters.proofs.Changes.{none_there, lowered_there}
use Rattle.counters.proofs.Unique.{unique_with, unique_without_seen}
use Rattle.counters.proofs.board_counters.BoardCounters.lower.Goals as goal

pub unreachable-requires : goal.unreachable-requires
unreachable-requires c = rw (none_there (counter_of c.args.key) c.deref.result.now c.self.inside.all.items c.deref.ensures.value c.in_default.ensures) at (rw (← c.self.view_is) at c.requires)

pub invariant_of-self : goal.invariant_of-self
invariant_of-self c = unique_with (counter_of c.args.key) c.deref.result.now c.self.inside.all.items c.deref.ensures.value lowered (λ row. refl) c.in-Some.at c.index_mut-counter.result.now c.lower.new.self c.in-Some.ensures c.index_mut-counter.ensures.value c.lower.ensures c.self.invariant

pub returns-then-left-gt1-clause-lowered : goal.returns-then-left-gt1-clause-lowered
returns-then-left-gt1-clause-lowered c =
    rw (← c.self.view_is) (lowered_there (counter_of c.args.key) c.deref.result.now c.self.inside.all.items c.deref.ensures.value c.in-Some.at c.index_mut-counter.result.now c.lower.new.self c.in-Some.ensures c.index_mut-counter.ensures.value
    (omega arith) c.lower.ensures)

pub invariant_of-self-2 : goal.invariant_of-self-2
invariant_of-self-2 c =
    unique_without_seen (counter_of c.args.key) c.deref.result.now c.self.inside.all.items c.deref.ensures.value c.in-Some.at c.index_mut-counter.result.now c.take_at.new.all.items c.in-Some.ensures c.index_mut-counter.ensures.value c.take_at.ensures.items c.self.invariant
