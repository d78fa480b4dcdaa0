use Rattle.grid_path.proofs.Doors.{HasOpened}
use Rattle.grid_path.proofs.table.open_doors.Given as goal

abbrev pub invariant-loop-door : goal.invariant-loop-door
invariant-loop-door l = HasOpened l.world l.signals l.door-items l.door-index l.table
