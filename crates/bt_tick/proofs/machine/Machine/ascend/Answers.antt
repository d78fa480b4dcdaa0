use Rattle.std.proofs.Common.{◌+◌, ap, sym, ◌∙◌, subst, refl, drop, arith}
use Rattle.std.specs.Prelude.{slice_set}
use Rattle.bt_nodes.specs.declared.node.Status.TheVariants.{Failure, Running}
use Rattle.bt_nodes.specs.Plain.{plain, plains, Seq, Fallback, Not, Tries, Ticks}
use Rattle.bt_nodes.specs.Bounds.{bounds}
use Rattle.bt_nodes.proofs.Views.{plain-Seq, plain-Fallback, plain-SeqStar, plain-FallbackStar, plain-Not, plain-Tries, plain-Ticks}
use Rattle.bt_nodes.proofs.Forests.{count-plains}
use Rattle.game_rules.specs.Tick.{gives}
use Rattle.bt_tick.specs.Children.{children_of}
use Rattle.bt_tick.specs.Kinds.{HasList}
use Rattle.bt_tick.specs.Suspended.{close, unwind}
use Rattle.bt_tick.specs.Machine.{opened, opens, rest_of, whole_of, with_parts}
use Rattle.bt_tick.proofs.Nests.{closed_at}
use Rattle.bt_tick.proofs.Leaving.{none_left}
use Rattle.bt_tick.proofs.Numbers.{star_wrote, tries_wrote, ticks_wrote, tries_lost, ticks_lost, end_star}
use Rattle.bt_tick.proofs.SmallNumbers.{small}
use Rattle.bt_tick.proofs.ChildStatus.{line_goes, line_stops, star_goes, star_stops, star_runs, tries_passes, ticks_ends, closes, closes_at, rested, only_closed, handed}
use Rattle.bt_tick.proofs.machine.Machine.ascend.Goals as goal

pub advance-requires : goal.advance-requires
advance-requires g c =
    let list : HasList (plain c.args.frame.node.now) = subst HasList (sym (ap plain c.in-Seq.is ∙ plain-Seq c.in-Seq.field-0)) tt in
    record {
      some = c.requires.some;
      rests = rested (whole_of c.args.self.now) c.args.at (opened c.args.frame) (opens (drop 1 c.args.self.now.stack)) c.args.frame.successes c.args.frame.failures list (omega arith) c.requires.stands c.requires.nested;
      list = list;
    }

pub returns-in-Success : goal.returns-in-Success
returns-in-Success g c =
    record {
      keeps = λ v s. c.advance.ensures.keeps v s
          ∙ ap (unwind v (opens (drop 1 c.args.self.now.stack))) (line_goes v (opened c.args.frame) (with_parts c.args.self.now.memory c.args.self.now.wants.items s) Seq (plains c.in-Seq.field-0.items) c.args.status (ap plain c.in-Seq.is ∙ plain-Seq c.in-Seq.field-0) c.in-Success.is);
      placed = c.advance.ensures.placed;
      falls = c.advance.ensures.falls;
      tree = c.advance.ensures.tree;
    }

pub returns-in-Failure : goal.returns-in-Failure
returns-in-Failure g c =
    let h = handed c.args.self.now c.stop.new.self c.stop.result _ _ (opened c.args.frame) c.args.status c.args.self.now.memory c.stop.ensures.mode c.stop.ensures.stack c.stop.ensures.memory c.stop.ensures.wants c.stop.ensures.tree
    refl c.requires.nested (λ v s. line_stops v (opened c.args.frame) (with_parts c.args.self.now.memory c.args.self.now.wants.items s) Seq (plains c.in-Seq.field-0.items) c.args.status (ap plain c.in-Seq.is ∙ plain-Seq c.in-Seq.field-0) c.in-Failure.is) in
    record { keeps = h.0; placed = h.1.0; falls = h.1.1; tree = c.stop.ensures.tree }

pub advance-requires-in-Failure-status : goal.advance-requires-in-Failure-status
advance-requires-in-Failure-status g c =
    let list : HasList (plain c.args.frame.node.now) = subst HasList (sym (ap plain c.in-Fallback.is ∙ plain-Fallback c.in-Fallback.field-0)) tt in
    record {
      some = c.requires.some;
      rests = rested (whole_of c.args.self.now) c.args.at (opened c.args.frame) (opens (drop 1 c.args.self.now.stack)) c.args.frame.successes c.args.frame.failures list (omega arith) c.requires.stands c.requires.nested;
      list = list;
    }

pub returns-in-Failure-status : goal.returns-in-Failure-status
returns-in-Failure-status g c =
    record {
      keeps = λ v s. c.advance-in-Failure-status.ensures.keeps v s
          ∙ ap (unwind v (opens (drop 1 c.args.self.now.stack))) (line_goes v (opened c.args.frame) (with_parts c.args.self.now.memory c.args.self.now.wants.items s) Fallback (plains c.in-Fallback.field-0.items) c.args.status (ap plain c.in-Fallback.is ∙ plain-Fallback c.in-Fallback.field-0) c.in-Failure-status.is);
      placed = c.advance-in-Failure-status.ensures.placed;
      falls = c.advance-in-Failure-status.ensures.falls;
      tree = c.advance-in-Failure-status.ensures.tree;
    }

pub returns-in-Success-status : goal.returns-in-Success-status
returns-in-Success-status g c =
    let h = handed c.args.self.now c.stop-in-Success-status.new.self c.stop-in-Success-status.result _ _ (opened c.args.frame) c.args.status c.args.self.now.memory c.stop-in-Success-status.ensures.mode c.stop-in-Success-status.ensures.stack c.stop-in-Success-status.ensures.memory c.stop-in-Success-status.ensures.wants c.stop-in-Success-status.ensures.tree
    refl c.requires.nested (λ v s. line_stops v (opened c.args.frame) (with_parts c.args.self.now.memory c.args.self.now.wants.items s) Fallback (plains c.in-Fallback.field-0.items) c.args.status (ap plain c.in-Fallback.is ∙ plain-Fallback c.in-Fallback.field-0) c.in-Success-status.is) in
    record { keeps = h.0; placed = h.1.0; falls = h.1.1; tree = c.stop-in-Success-status.ensures.tree }

pub invariant_of-self : goal.invariant_of-self
invariant_of-self g c =
    record {
      fits = star_wrote (whole_of c.args.self.now) c.args.self.now.memory _ c.args.frame.next _ _ _ (opened c.args.frame) c.args.self.now.fits c.requires.stands c.set.ensures
          Seq (plains c.in-SeqStar.children.items) (ap plain c.in-SeqStar.is ∙ plain-SeqStar c.in-SeqStar.children) (omega (arith, count-plains c.in-SeqStar.children.items));
    }

pub advance-requires-then-frame-len : goal.advance-requires-then-frame-len
advance-requires-then-frame-len g c =
    let list : HasList (plain c.args.frame.node.now) = subst HasList (sym (ap plain c.in-SeqStar.is ∙ plain-SeqStar c.in-SeqStar.children)) tt in
    record {
      some = c.requires.some;
      rests = rested (whole_of c.args.self.now) c.args.at (opened c.args.frame) (opens (drop 1 c.args.self.now.stack)) c.args.frame.successes c.args.frame.failures list (omega arith) c.requires.stands c.requires.nested;
      list = list;
    }

pub returns-then-frame-len : goal.returns-then-frame-len
returns-then-frame-len g c =
    record {
      keeps = λ v s. c.advance-then-frame-len.ensures.keeps v s
          ∙ ap (λ m. unwind v (opens (drop 1 c.args.self.now.stack)) (rest_of v (opened c.args.frame) (with_parts m c.args.self.now.wants.items s))) c.set.ensures
          ∙ ap (unwind v (opens (drop 1 c.args.self.now.stack))) (star_goes v (opened c.args.frame) (with_parts c.args.self.now.memory c.args.self.now.wants.items s) Seq (plains c.in-SeqStar.children.items) c.args.status (ap plain c.in-SeqStar.is ∙ plain-SeqStar c.in-SeqStar.children) c.in-Success-status-2.is);
      placed = c.advance-then-frame-len.ensures.placed;
      falls = c.advance-then-frame-len.ensures.falls;
      tree = c.advance-then-frame-len.ensures.tree;
    }

pub returns-else-frame-len : goal.returns-else-frame-len
returns-else-frame-len g c =
    let h = handed c.args.self.now c.leave.new.self c.leave.result _ _ (opened c.args.frame) c.args.status (slice_set c.args.self.now.memory c.args.frame.number 0) c.leave.ensures.mode c.leave.ensures.stack (c.leave.ensures.memory ∙ c.set-in-Success-status-2.ensures) c.leave.ensures.wants c.leave.ensures.tree
    (closed_at _ c.args.frame.next c.args.at _ (opened c.args.frame) c.requires.stands (none_left (opened c.args.frame) c.in-SeqStar.children.items (ap children_of (ap plain c.in-SeqStar.is ∙ plain-SeqStar c.in-SeqStar.children)) (omega arith))) c.requires.nested (λ v s. end_star v (opened c.args.frame) Seq (plains c.in-SeqStar.children.items) (with_parts c.args.self.now.memory c.args.self.now.wants.items s) (ap plain c.in-SeqStar.is ∙ plain-SeqStar c.in-SeqStar.children) (none_left (opened c.args.frame) c.in-SeqStar.children.items (ap children_of (ap plain c.in-SeqStar.is ∙ plain-SeqStar c.in-SeqStar.children)) (omega arith))
    ∙ ap (λ st. close v (opened c.args.frame) (gives st (with_parts c.args.self.now.memory c.args.self.now.wants.items s))) (sym c.in-Success-status-2.is)) in
    record { keeps = h.0; placed = h.1.0; falls = h.1.1; tree = c.leave.ensures.tree }

pub returns-in-Failure-status-2 : goal.returns-in-Failure-status-2
returns-in-Failure-status-2 g c =
    let h = handed c.args.self.now c.stop-in-Failure-status-2.new.self c.stop-in-Failure-status-2.result _ _ (opened c.args.frame) c.args.status (slice_set c.args.self.now.memory c.args.frame.number 0) c.stop-in-Failure-status-2.ensures.mode c.stop-in-Failure-status-2.ensures.stack (c.stop-in-Failure-status-2.ensures.memory ∙ c.set-in-Failure-status-2.ensures) c.stop-in-Failure-status-2.ensures.wants c.stop-in-Failure-status-2.ensures.tree
    refl c.requires.nested (λ v s. star_stops v (opened c.args.frame) (with_parts c.args.self.now.memory c.args.self.now.wants.items s) Seq (plains c.in-SeqStar.children.items) c.args.status (ap plain c.in-SeqStar.is ∙ plain-SeqStar c.in-SeqStar.children) c.in-Failure-status-2.is) in
    record { keeps = h.0; placed = h.1.0; falls = h.1.1; tree = c.stop-in-Failure-status-2.ensures.tree }

pub returns-in-Running : goal.returns-in-Running
returns-in-Running g c =
    let h = handed c.args.self.now c.stop-in-Running.new.self c.stop-in-Running.result _ _ (opened c.args.frame) c.args.status c.args.self.now.memory c.stop-in-Running.ensures.mode c.stop-in-Running.ensures.stack c.stop-in-Running.ensures.memory c.stop-in-Running.ensures.wants c.stop-in-Running.ensures.tree
    refl c.requires.nested (λ v s. star_runs v (opened c.args.frame) (with_parts c.args.self.now.memory c.args.self.now.wants.items s) Seq (plains c.in-SeqStar.children.items) c.args.status (ap plain c.in-SeqStar.is ∙ plain-SeqStar c.in-SeqStar.children) c.in-Running.is) in
    record { keeps = h.0; placed = h.1.0; falls = h.1.1; tree = c.stop-in-Running.ensures.tree }

pub invariant_of-self-then-frame-len-2 : goal.invariant_of-self-then-frame-len-2
invariant_of-self-then-frame-len-2 g c =
    record {
      fits = star_wrote (whole_of c.args.self.now) c.args.self.now.memory _ c.args.frame.next _ _ _ (opened c.args.frame) c.args.self.now.fits c.requires.stands c.set-then-frame-len-2.ensures
          Fallback (plains c.in-FallbackStar.children.items) (ap plain c.in-FallbackStar.is ∙ plain-FallbackStar c.in-FallbackStar.children) (omega (arith, count-plains c.in-FallbackStar.children.items));
    }

pub advance-requires-then-frame-len-2 : goal.advance-requires-then-frame-len-2
advance-requires-then-frame-len-2 g c =
    let list : HasList (plain c.args.frame.node.now) = subst HasList (sym (ap plain c.in-FallbackStar.is ∙ plain-FallbackStar c.in-FallbackStar.children)) tt in
    record {
      some = c.requires.some;
      rests = rested (whole_of c.args.self.now) c.args.at (opened c.args.frame) (opens (drop 1 c.args.self.now.stack)) c.args.frame.successes c.args.frame.failures list (omega arith) c.requires.stands c.requires.nested;
      list = list;
    }

pub returns-then-frame-len-2 : goal.returns-then-frame-len-2
returns-then-frame-len-2 g c =
    record {
      keeps = λ v s. c.advance-then-frame-len-2.ensures.keeps v s
          ∙ ap (λ m. unwind v (opens (drop 1 c.args.self.now.stack)) (rest_of v (opened c.args.frame) (with_parts m c.args.self.now.wants.items s))) c.set-then-frame-len-2.ensures
          ∙ ap (unwind v (opens (drop 1 c.args.self.now.stack))) (star_goes v (opened c.args.frame) (with_parts c.args.self.now.memory c.args.self.now.wants.items s) Fallback (plains c.in-FallbackStar.children.items) c.args.status (ap plain c.in-FallbackStar.is ∙ plain-FallbackStar c.in-FallbackStar.children) c.in-Failure-status-3.is);
      placed = c.advance-then-frame-len-2.ensures.placed;
      falls = c.advance-then-frame-len-2.ensures.falls;
      tree = c.advance-then-frame-len-2.ensures.tree;
    }

pub returns-else-frame-len-2 : goal.returns-else-frame-len-2
returns-else-frame-len-2 g c =
    let h = handed c.args.self.now c.leave-in-Failure-status-3.new.self c.leave-in-Failure-status-3.result _ _ (opened c.args.frame) c.args.status (slice_set c.args.self.now.memory c.args.frame.number 0) c.leave-in-Failure-status-3.ensures.mode c.leave-in-Failure-status-3.ensures.stack (c.leave-in-Failure-status-3.ensures.memory ∙ c.set-in-Failure-status-3.ensures) c.leave-in-Failure-status-3.ensures.wants c.leave-in-Failure-status-3.ensures.tree
    (closed_at _ c.args.frame.next c.args.at _ (opened c.args.frame) c.requires.stands (none_left (opened c.args.frame) c.in-FallbackStar.children.items (ap children_of (ap plain c.in-FallbackStar.is ∙ plain-FallbackStar c.in-FallbackStar.children)) (omega arith))) c.requires.nested (λ v s. end_star v (opened c.args.frame) Fallback (plains c.in-FallbackStar.children.items) (with_parts c.args.self.now.memory c.args.self.now.wants.items s) (ap plain c.in-FallbackStar.is ∙ plain-FallbackStar c.in-FallbackStar.children) (none_left (opened c.args.frame) c.in-FallbackStar.children.items (ap children_of (ap plain c.in-FallbackStar.is ∙ plain-FallbackStar c.in-FallbackStar.children)) (omega arith))
    ∙ ap (λ st. close v (opened c.args.frame) (gives st (with_parts c.args.self.now.memory c.args.self.now.wants.items s))) (sym c.in-Failure-status-3.is)) in
    record { keeps = h.0; placed = h.1.0; falls = h.1.1; tree = c.leave-in-Failure-status-3.ensures.tree }

pub returns-in-Success-status-3 : goal.returns-in-Success-status-3
returns-in-Success-status-3 g c =
    let h = handed c.args.self.now c.stop-in-Success-status-3.new.self c.stop-in-Success-status-3.result _ _ (opened c.args.frame) c.args.status (slice_set c.args.self.now.memory c.args.frame.number 0) c.stop-in-Success-status-3.ensures.mode c.stop-in-Success-status-3.ensures.stack (c.stop-in-Success-status-3.ensures.memory ∙ c.set-in-Success-status-3.ensures) c.stop-in-Success-status-3.ensures.wants c.stop-in-Success-status-3.ensures.tree
    refl c.requires.nested (λ v s. star_stops v (opened c.args.frame) (with_parts c.args.self.now.memory c.args.self.now.wants.items s) Fallback (plains c.in-FallbackStar.children.items) c.args.status (ap plain c.in-FallbackStar.is ∙ plain-FallbackStar c.in-FallbackStar.children) c.in-Success-status-3.is) in
    record { keeps = h.0; placed = h.1.0; falls = h.1.1; tree = c.stop-in-Success-status-3.ensures.tree }

pub returns-in-Running-status : goal.returns-in-Running-status
returns-in-Running-status g c =
    let h = handed c.args.self.now c.stop-in-Running-status.new.self c.stop-in-Running-status.result _ _ (opened c.args.frame) c.args.status c.args.self.now.memory c.stop-in-Running-status.ensures.mode c.stop-in-Running-status.ensures.stack c.stop-in-Running-status.ensures.memory c.stop-in-Running-status.ensures.wants c.stop-in-Running-status.ensures.tree
    refl c.requires.nested (λ v s. star_runs v (opened c.args.frame) (with_parts c.args.self.now.memory c.args.self.now.wants.items s) Fallback (plains c.in-FallbackStar.children.items) c.args.status (ap plain c.in-FallbackStar.is ∙ plain-FallbackStar c.in-FallbackStar.children) c.in-Running-status.is) in
    record { keeps = h.0; placed = h.1.0; falls = h.1.1; tree = c.stop-in-Running-status.ensures.tree }

pub returns-in-Not : goal.returns-in-Not
returns-in-Not g c =
    let h = handed c.args.self.now c.leave-in-Not.new.self c.leave-in-Not.result _ _ (opened c.args.frame) c.args.status c.args.self.now.memory c.leave-in-Not.ensures.mode c.leave-in-Not.ensures.stack c.leave-in-Not.ensures.memory c.leave-in-Not.ensures.wants c.leave-in-Not.ensures.tree
    (only_closed (whole_of c.args.self.now) c.args.at _ (opened c.args.frame) (plain c.in-Not.field-0.value) (ap children_of (ap plain c.in-Not.is ∙ plain-Not c.in-Not.field-0)) c.requires.stands) c.requires.nested (λ v s. c.opposite.ensures (with_parts c.args.self.now.memory c.args.self.now.wants.items s) ∙ closes v (opened c.args.frame) (with_parts c.args.self.now.memory c.args.self.now.wants.items s) (Not (plain c.in-Not.field-0.value)) (gives c.args.status (with_parts c.args.self.now.memory c.args.self.now.wants.items s)) (ap plain c.in-Not.is ∙ plain-Not c.in-Not.field-0)) in
    record { keeps = h.0; placed = h.1.0; falls = h.1.1; tree = c.leave-in-Not.ensures.tree }

pub overflow_add-frame : goal.overflow_add-frame
overflow_add-frame g c =
    omega (arith, small c.args.self.now.tree.now (plain c.args.frame.node.now) c.args.frame.number _ (c.args.frame.failures + 1) _ (ap bounds (ap plain c.in-Tries.is ∙ plain-Tries c.in-Tries.most c.in-Tries.field-1)) c.requires.stands.sits (omega (arith, tries_lost _ _ _ _ (opened c.args.frame) c.in-Tries.most _ c.requires.stands (ap plain c.in-Tries.is ∙ plain-Tries c.in-Tries.most c.in-Tries.field-1))))

pub invariant_of-self-in-Failure-status-4 : goal.invariant_of-self-in-Failure-status-4
invariant_of-self-in-Failure-status-4 g c =
    record {
      fits = tries_wrote (whole_of c.args.self.now) c.args.self.now.memory _ (c.args.frame.failures + 1) _ _ _ (opened c.args.frame) c.args.self.now.fits c.requires.stands c.set-in-Failure-status-4.ensures
          c.in-Tries.most (plain c.in-Tries.field-1.value) (ap plain c.in-Tries.is ∙ plain-Tries c.in-Tries.most c.in-Tries.field-1) (omega (arith, tries_lost _ _ _ _ (opened c.args.frame) c.in-Tries.most _ c.requires.stands (ap plain c.in-Tries.is ∙ plain-Tries c.in-Tries.most c.in-Tries.field-1)));
    }

pub returns-in-Failure-status-4 : goal.returns-in-Failure-status-4
returns-in-Failure-status-4 g c =
    let h = handed c.args.self.now c.leave-in-Failure-status-4.new.self c.leave-in-Failure-status-4.result _ _ (opened c.args.frame) c.args.status (slice_set c.args.self.now.memory c.args.frame.number (c.args.frame.failures + 1)) c.leave-in-Failure-status-4.ensures.mode c.leave-in-Failure-status-4.ensures.stack (c.leave-in-Failure-status-4.ensures.memory ∙ c.set-in-Failure-status-4.ensures) c.leave-in-Failure-status-4.ensures.wants c.leave-in-Failure-status-4.ensures.tree
    (only_closed (whole_of c.args.self.now) c.args.at _ (opened c.args.frame) (plain c.in-Tries.field-1.value) (ap children_of (ap plain c.in-Tries.is ∙ plain-Tries c.in-Tries.most c.in-Tries.field-1)) c.requires.stands) c.requires.nested (λ v s. closes_at v (opened c.args.frame) (with_parts c.args.self.now.memory c.args.self.now.wants.items s) (Tries c.in-Tries.most (plain c.in-Tries.field-1.value)) c.args.status Failure _ (ap plain c.in-Tries.is ∙ plain-Tries c.in-Tries.most c.in-Tries.field-1) c.in-Failure-status-4.is refl) in
    record { keeps = h.0; placed = h.1.0; falls = h.1.1; tree = c.leave-in-Failure-status-4.ensures.tree }

pub returns-in-Success-status-4 : goal.returns-in-Success-status-4
returns-in-Success-status-4 g c =
    let h = handed c.args.self.now c.leave-in-Success-status-4.new.self c.leave-in-Success-status-4.result _ _ (opened c.args.frame) c.args.status c.args.self.now.memory c.leave-in-Success-status-4.ensures.mode c.leave-in-Success-status-4.ensures.stack c.leave-in-Success-status-4.ensures.memory c.leave-in-Success-status-4.ensures.wants c.leave-in-Success-status-4.ensures.tree
    (only_closed (whole_of c.args.self.now) c.args.at _ (opened c.args.frame) (plain c.in-Tries.field-1.value) (ap children_of (ap plain c.in-Tries.is ∙ plain-Tries c.in-Tries.most c.in-Tries.field-1)) c.requires.stands) c.requires.nested (λ v s. tries_passes v (opened c.args.frame) (with_parts c.args.self.now.memory c.args.self.now.wants.items s) c.in-Tries.most (plain c.in-Tries.field-1.value) c.args.status (ap plain c.in-Tries.is ∙ plain-Tries c.in-Tries.most c.in-Tries.field-1) c.in-Success-status-4.is) in
    record { keeps = h.0; placed = h.1.0; falls = h.1.1; tree = c.leave-in-Success-status-4.ensures.tree }

pub overflow_add-frame-in-Running-status-2 : goal.overflow_add-frame-in-Running-status-2
overflow_add-frame-in-Running-status-2 g c =
    omega (arith, small c.args.self.now.tree.now (plain c.args.frame.node.now) c.args.frame.number _ (c.args.frame.failures + 1) _ (ap bounds (ap plain c.in-Ticks.is ∙ plain-Ticks c.in-Ticks.limit c.in-Ticks.field-1)) c.requires.stands.sits (omega (arith, ticks_lost _ _ _ _ (opened c.args.frame) c.in-Ticks.limit _ c.requires.stands (ap plain c.in-Ticks.is ∙ plain-Ticks c.in-Ticks.limit c.in-Ticks.field-1))))

pub invariant_of-self-in-Running-status-2 : goal.invariant_of-self-in-Running-status-2
invariant_of-self-in-Running-status-2 g c =
    record {
      fits = ticks_wrote (whole_of c.args.self.now) c.args.self.now.memory _ (c.args.frame.failures + 1) _ _ _ (opened c.args.frame) c.args.self.now.fits c.requires.stands c.set-in-Running-status-2.ensures
          c.in-Ticks.limit (plain c.in-Ticks.field-1.value) (ap plain c.in-Ticks.is ∙ plain-Ticks c.in-Ticks.limit c.in-Ticks.field-1) (omega (arith, ticks_lost _ _ _ _ (opened c.args.frame) c.in-Ticks.limit _ c.requires.stands (ap plain c.in-Ticks.is ∙ plain-Ticks c.in-Ticks.limit c.in-Ticks.field-1)));
    }

pub returns-in-Running-status-2 : goal.returns-in-Running-status-2
returns-in-Running-status-2 g c =
    let h = handed c.args.self.now c.leave-in-Running-status-2.new.self c.leave-in-Running-status-2.result _ _ (opened c.args.frame) c.args.status (slice_set c.args.self.now.memory c.args.frame.number (c.args.frame.failures + 1)) c.leave-in-Running-status-2.ensures.mode c.leave-in-Running-status-2.ensures.stack (c.leave-in-Running-status-2.ensures.memory ∙ c.set-in-Running-status-2.ensures) c.leave-in-Running-status-2.ensures.wants c.leave-in-Running-status-2.ensures.tree
    (only_closed (whole_of c.args.self.now) c.args.at _ (opened c.args.frame) (plain c.in-Ticks.field-1.value) (ap children_of (ap plain c.in-Ticks.is ∙ plain-Ticks c.in-Ticks.limit c.in-Ticks.field-1)) c.requires.stands) c.requires.nested (λ v s. closes_at v (opened c.args.frame) (with_parts c.args.self.now.memory c.args.self.now.wants.items s) (Ticks c.in-Ticks.limit (plain c.in-Ticks.field-1.value)) c.args.status Running _ (ap plain c.in-Ticks.is ∙ plain-Ticks c.in-Ticks.limit c.in-Ticks.field-1) c.in-Running-status-2.is refl) in
    record { keeps = h.0; placed = h.1.0; falls = h.1.1; tree = c.leave-in-Running-status-2.ensures.tree }

pub returns-in-Success-status-5 : goal.returns-in-Success-status-5
returns-in-Success-status-5 g c =
    let h = handed c.args.self.now c.leave-in-Success-status-5.new.self c.leave-in-Success-status-5.result _ _ (opened c.args.frame) c.args.status (slice_set c.args.self.now.memory c.args.frame.number 0) c.leave-in-Success-status-5.ensures.mode c.leave-in-Success-status-5.ensures.stack (c.leave-in-Success-status-5.ensures.memory ∙ c.set-in-Success-status-5.ensures) c.leave-in-Success-status-5.ensures.wants c.leave-in-Success-status-5.ensures.tree
    (only_closed (whole_of c.args.self.now) c.args.at _ (opened c.args.frame) (plain c.in-Ticks.field-1.value) (ap children_of (ap plain c.in-Ticks.is ∙ plain-Ticks c.in-Ticks.limit c.in-Ticks.field-1)) c.requires.stands) c.requires.nested (λ v s. ticks_ends v (opened c.args.frame) (with_parts c.args.self.now.memory c.args.self.now.wants.items s) c.in-Ticks.limit (plain c.in-Ticks.field-1.value) c.args.status (ap plain c.in-Ticks.is ∙ plain-Ticks c.in-Ticks.limit c.in-Ticks.field-1) c.in-Success-status-5.is) in
    record { keeps = h.0; placed = h.1.0; falls = h.1.1; tree = c.leave-in-Success-status-5.ensures.tree }
