use Rattle.std.proofs.Common.{◌≡◌, List}
use Rattle.grid_world.specs.declared.cell.Answer.{Answer}
use Rattle.bt_tick.specs.Views.{view_of, IsNearestIn}
use Rattle.bt_tick.specs.Machine.{Placed, weight}
use Rattle.bt_tick.specs.Outcome.{machine_left}
use Rattle.bt_tick.proofs.run.run.Given as goal

abbrev pub invariant-loop-mode : goal.invariant-loop-mode
invariant-loop-mode g l = record {
  placed : Placed l.machine l.mode;
  nearest : IsNearestIn (view_of l.view) l.nearest;
  tree : l.machine.tree ≡ l.fn.begun.tree;
  keeps : (more : List Answer) → machine_left (view_of l.view) l.machine l.mode more ≡ machine_left (view_of l.view) l.fn.begun l.fn.start more;
}

abbrev pub decreases-loop-mode : goal.decreases-loop-mode
decreases-loop-mode g l = weight l.machine l.mode
