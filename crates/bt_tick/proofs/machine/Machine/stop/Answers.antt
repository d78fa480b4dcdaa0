use Rattle.std.proofs.Common.{ap, ◌∙◌}
use Rattle.bt_nodes.specs.Plain.{plain}
use Rattle.bt_tick.specs.Machine.{whole_of}
use Rattle.bt_tick.specs.declared.machine.Mode.TheVariants.{Up}
use Rattle.bt_tick.proofs.Beginning.{number_below}
use Rattle.bt_tick.proofs.machine.Machine.stop.Goals as goal

pub number_after-after-requires : goal.number_after-after-requires
number_after-after-requires g c = number_below (whole_of c.args.self.now) (plain c.args.frame.node.now) c.args.frame.number c.requires

pub returns : goal.returns
returns g c = record {
  mode = c.leave.ensures.mode ∙ ap (Up c.args.status) (c.number_after-after.ensures (plain c.args.frame.node.now) c.requires);
  stack = c.leave.ensures.stack;
  memory = c.leave.ensures.memory;
  wants = c.leave.ensures.wants;
  tree = c.leave.ensures.tree;
}
