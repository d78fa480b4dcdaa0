use Rattle.std.proofs.Common.{◌≡◌, drop, ◌++◌}
use Rattle.grid_world.specs.Map.{marks_of}
use Rattle.grid_world.specs.MapFaults.{rows_of}
use Rattle.grid_world.proofs.map.marks_in.Given as goal

abbrev pub invariant-rows : goal.invariant-rows
invariant-rows l = l.marks.items ++ marks_of (rows_of (drop l.row-index l.rows)) ≡ marks_of (rows_of l.rows)
