use Rattle.std.proofs.Common.{◌≤◌, List, length}
use Rattle.grid_world.specs.Grid.{Grid}
use Rattle.frame_parts.specs.Distances.{AllOn}
use Rattle.frame_parts.proofs.distance_cache.put_first.Given as goal

abbrev pub invariant-found : goal.invariant-found
invariant-found l = record {
  on : (g : Grid) → AllOn g l.found → AllOn g l.initial.all.items → AllOn g l.all.items;
  room : l.at ≤ length l.all.items;
}
