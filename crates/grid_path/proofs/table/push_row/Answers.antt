use Rattle.grid_world.specs.Ground.{no_signals}
use Rattle.grid_path.specs.Bordered.{open_row}
use Rattle.grid_path.proofs.Doors.{appended, floor_part}
use Rattle.grid_path.proofs.table.push_row.Goals as goal

pub returns : goal.returns
returns g c =
    appended c.extend_from_slice.result c.args.table.now.items _ _ (open_row c.args.world.now no_signals c.args.y) c.extend_from_slice.ensures.items
    (floor_part c.args.world.now c.args.y c.width-width.result c.floor.result.now c.width-width.ensures.world.sized c.requires c.width-width.ensures.value c.floor.ensures)
