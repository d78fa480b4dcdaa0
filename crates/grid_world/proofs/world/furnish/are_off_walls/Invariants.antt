use Rattle.std.proofs.Common.{ℕ, ◌≡◌, ◌≢◌, ◌<◌, true, false, slice_index_or}
use Rattle.grid_world.specs.declared.cell.Cell.TheVariants.{Wall}
use Rattle.grid_world.proofs.world.furnish.are_off_walls.Given as goal

abbrev pub invariant-cells : goal.invariant-cells
invariant-cells l = (i : ℕ) → i < l.cell → slice_index_or l.items i false ≡ true → slice_index_or l.cells i Wall ≢ Wall
