use Rattle.std.proofs.Common.{◌+◌}
use Rattle.grid_world.specs.Ground.{no_signals}
use Rattle.grid_path.proofs.Cells.{HasRows}
use Rattle.grid_path.proofs.table.open_cells.Given as goal

abbrev pub invariant-loop-y : goal.invariant-loop-y
invariant-loop-y g l = HasRows l.world no_signals l.table.items (l.y + 1)
