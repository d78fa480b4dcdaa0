use Rattle.std.proofs.Common.{◌≡◌, drop, length, ◌==◌}
use Rattle.std.specs.List.{list_all}
use Rattle.grid_world.specs.MapFaults.{rows_of}
use Rattle.grid_world.proofs.map.has_size.Given as goal

abbrev pub invariant-rows : goal.invariant-rows
invariant-rows l = list_all (λ row. length row == l.width) (rows_of (drop l.row-index l.rows))
    ≡ list_all (λ row. length row == l.width) (rows_of l.rows)
