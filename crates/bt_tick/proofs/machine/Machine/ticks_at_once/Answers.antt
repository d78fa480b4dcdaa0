use Rattle.std.proofs.Common.{◌+◌, refl, sym, subst, arith}
use Rattle.bt_nodes.specs.Plain.{plain, Ticks, none}
use Rattle.bt_nodes.specs.Trees.{plain_of}
use Rattle.bt_tick.specs.Machine.{whole_of}
use Rattle.bt_tick.specs.Places.{Sits}
use Rattle.bt_tick.proofs.Numbers.{sat_wrote}
use Rattle.bt_tick.proofs.SmallNumbers.{small}
use Rattle.bt_tick.proofs.Trees.{sits_child}
use Rattle.bt_tick.proofs.machine.Machine.ticks_at_once.Goals as goal

pub returns-then-past-most-clause-after : goal.returns-then-past-most-clause-after
returns-then-past-most-clause-after g c = c.number_after.ensures (Ticks c.args.most (plain c.args.child.now)) c.requires.sits

pub leaf_at_once-requires-clause-sits : goal.leaf_at_once-requires-clause-sits
leaf_at_once-requires-clause-sits g c = sits_child (whole_of c.args.self.now) (Ticks c.args.most (plain c.args.child.now)) c.args.number 0 (plain c.args.child.now) none refl c.requires.sits

pub overflow_add-past : goal.overflow_add-past
overflow_add-past g c = omega (arith, small c.args.self.now.tree.now (Ticks c.args.most (plain c.args.child.now)) c.args.number _ (c.number-past.result + 1) _ refl c.requires.sits (omega (arith, c.if-past-most.false)))

pub invariant_of-self-in-Running : goal.invariant_of-self-in-Running
invariant_of-self-in-Running g c =
    let ticks = Ticks c.args.most (plain c.args.child.now) in
    let sits = subst (λ t. Sits (plain_of t.now) c.args.number ticks) (sym c.leaf_at_once.ensures.tree) c.requires.sits in
    let new = c.leaf_at_once.new.self in
    record {
      fits = sat_wrote (plain_of new.tree.now) ticks new.memory _ c.args.number (c.number-past.result + 1) _ _ new.fits sits refl (omega (arith, c.if-past-most.false)) c.set-in-Running.ensures;
    }
