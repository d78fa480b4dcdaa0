use Rattle.std.proofs.Common.{◌≡◌, ◌<◌, ◌*◌, ℕ, length, false, arith}
use Rattle.std.proofs.lemmas.List.FromFn.{fill_by_all}
use Rattle.grid_world.specs.Grid.{point_at}
use Rattle.btworld_c.specs.declared.game.CellState.{CellState}
use Rattle.btworld_c.specs.Maps.{cell_told}
use Rattle.btworld_c.proofs.cell_reading.write_cells.Goals as goal

pub returns : goal.returns
returns c =
    let w = c.args.world.now in
    let none : CellState = record { mark = 0; item = false; agent = 0 } in
    let long : length c.cells.cells ≡ w.width * w.height = omega arith in
    fill_by_all (λ (k : ℕ). cell_told w (point_at w k)) c.cells.cells (w.width * w.height) none long
    (λ (k : ℕ) (l : k < w.width * w.height). c.cells.invariant k none (omega arith))
