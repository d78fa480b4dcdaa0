use Rattle.std.proofs.Common.{◌≡◌, ◌∙◌, ap, sym}
use Rattle.std.specs.Bool.{Decides}
use Rattle.std.specs.Cmp.{booleans_Decides}
use Rattle.std.proofs.lemmas.Slice.Eq.{slice_eq-Decides}
use Rattle.frame_parts.specs.Distances.{DistancesOf}
use Rattle.frame_parts.proofs.distance_field.FieldData.is_under.Goals as goal

pub returns : goal.returns
returns c =
    let x = c.self.inside in
    let same : Decides c.eq.result (c.args.signals ≡ x.signals) = slice_eq-Decides booleans_Decides _ _ _ c.eq.ensures in
    λ t. ap (λ (d : DistancesOf). d.signals) (sym c.self.view_is) ∙ sym (same.0 t)
