use Rattle.std.proofs.Common.{◌≡◌, ℕ, ◌<◌, get_or}
use Rattle.grid_world.specs.Grid.{point_at}
use Rattle.btworld_c.specs.declared.game.CellState.{CellState}
use Rattle.btworld_c.specs.Maps.{cell_told}
use Rattle.btworld_c.proofs.cell_reading.write_cells.Given as goal

abbrev pub invariant-cells : goal.invariant-cells
invariant-cells l = (k : ℕ) (d : CellState) → k < l.number → get_or l.cells k d ≡ cell_told l.world (point_at l.world k)
