use Rattle.std.proofs.Common.{◌∙◌, ap}
use Rattle.grid_world.specs.Way.{way}
use Rattle.grid_world.specs.World.{point}
use Rattle.frame_parts.specs.Distances.{DistancesOf}
use Rattle.frame_parts.proofs.distance_field.DistanceField.way.Goals as goal

pub returns : goal.returns
returns c =
    let p = point c.args.from.0 c.args.from.1 in
    c.way.ensures ∙ ap (λ (d : DistancesOf). way d.ground d.signals p d.place) (c.deref.ensures ∙ c.self.view_is)
