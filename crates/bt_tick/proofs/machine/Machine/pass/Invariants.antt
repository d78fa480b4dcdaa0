use Rattle.std.proofs.Common.{◌≡◌, ◌≤◌, List}
use Rattle.bt_tick.specs.Suspended.{Open}
use Rattle.bt_tick.specs.Places.{Resting, weight_of}
use Rattle.bt_tick.specs.Machine.{opened, rest_of, KeepsLeft, whole_of}
use Rattle.bt_tick.specs.Views.{view_of, IsNearestIn}
use Rattle.bt_tick.proofs.machine.Machine.pass.Given as goal

abbrev pub invariant-children : goal.invariant-children
invariant-children g l = record {
  rests : (fs : List Open) → Resting (whole_of l.fn.self) l.fn.at (opened l.fn.frame) fs → Resting (whole_of l.fn.self) l.number (opened l.par) fs;
  keeps : KeepsLeft l.self l.fn.self (rest_of (view_of l.view) (opened l.par)) (rest_of (view_of l.view) (opened l.fn.frame));
  falls : weight_of (opened l.par) ≤ weight_of (opened l.fn.frame);
  node : l.par.node ≡ l.fn.frame.node;
  next : l.par.next ≡ l.next;
  stack : l.self.stack ≡ l.fn.self.stack;
  wants : l.self.wants ≡ l.fn.self.wants;
  tree : l.self.tree ≡ l.fn.self.tree;
  nearest : IsNearestIn (view_of l.view) l.nearest;
}
