-- The cells around a cell.
use Rattle.std.specs.Prelude.{Bool, not, ◌&&◌}
use Rattle.grid_world.specs.declared.cell.Dir.{Dir}
use Rattle.grid_world.specs.declared.cell.Dir.TheVariants.{North, East, South, West}
use Rattle.grid_path.specs.declared.around.Around.{Around}

abbrev pub side : Around → Dir → Bool
side a North = a.north
side a East = a.east
side a South = a.south
side a West = a.west

-- unmet before, and met now
abbrev pub is_newly_met : Around → Around → Dir → Bool
is_newly_met before now d = side before d && not (side now d)
