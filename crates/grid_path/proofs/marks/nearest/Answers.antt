use Rattle.grid_path.proofs.Measured.{found_least}
use Rattle.grid_path.specs.Distances.{mark_in}
use Rattle.std.specs.Prelude.{slice_index}
use Rattle.grid_path.proofs.marks.nearest.Goals as goal

pub returns : goal.returns
returns c open_at goal is =
    found_least open_at c.args.stride goal c.args.from (slice_index c.args.marks.now) (mark_in c.of-around.result) c.least-least.result c.first_with.result c.from.result
    c.from.ensures c.if-least-eq0.false c.of-around.ensures c.least-least.ensures c.first_with.ensures.has c.first_with.ensures.first c.requires.above is
