use Rattle.std.proofs.Common.{◌+◌, refl, arith}
use Rattle.bt_nodes.specs.Plain.{Wait}
use Rattle.bt_tick.specs.Machine.{whole_of}
use Rattle.bt_tick.proofs.Numbers.{sat_wrote}
use Rattle.bt_tick.proofs.SmallNumbers.{small}
use Rattle.bt_tick.proofs.machine.Machine.wait.Goals as goal

pub overflow_add-past : goal.overflow_add-past
overflow_add-past g c = omega (arith, small c.args.self.now.tree.now (Wait c.args.most) c.args.number _ (c.number-past.result + 1) _ refl c.requires (omega (arith, c.if-past-most.true)))

pub invariant_of-self : goal.invariant_of-self
invariant_of-self g c = record {
  fits = sat_wrote (whole_of c.args.self.now) (Wait c.args.most) c.args.self.now.memory _ c.args.number (c.number-past.result + 1) _ _ c.args.self.now.fits c.requires refl (omega (arith, c.if-past-most.true)) c.set.ensures;
}
