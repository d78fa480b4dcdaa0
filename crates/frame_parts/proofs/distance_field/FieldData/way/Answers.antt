use Rattle.std.proofs.Common.{◌∙◌, ap, sym, subst}
use Rattle.grid_world.specs.Grid.{Grid}
use Rattle.grid_world.specs.Way.{way}
use Rattle.grid_world.specs.World.{point}
use Rattle.grid_path.specs.Distances.{AreDistances}
use Rattle.frame_parts.specs.Distances.{DistancesOf}
use Rattle.frame_parts.proofs.distance_field.FieldData.way.Goals as goal

pub returns : goal.returns
returns c =
    let x = c.self.inside in
    let p = point c.args.from.0 c.args.from.1 in
    let here : AreDistances c.deref.result.now x.signals x.place x.table =
    subst (λ (w : Grid). AreDistances w x.signals x.place x.table) (sym c.deref.ensures) c.self.invariant in
    c.way.ensures x.signals here ∙ ap (λ (w : Grid). way w x.signals p x.place) c.deref.ensures
    ∙ ap (λ (d : DistancesOf). way d.ground d.signals p d.place) c.self.view_is
