use Rattle.std.proofs.Common.{◌≡◌, ◌∙◌, ap, subst, Option, None}
use Rattle.std.specs.Prelude.{MatchOption}
use Rattle.std.specs.Arc.{arc_value}
use Rattle.grid_world.specs.Grid.{place_of}
use Rattle.grid_world.specs.World.{point}
use Rattle.grid_world.specs.Way.{way}
use Rattle.frame_parts.specs.Distances.{DistancesOf, DistanceCacheOf, distances_of}
use Rattle.frame_parts.proofs.distance_cache.DistanceCache.way.Goals as goal

pub returns-in-Some-clause-way : goal.returns-in-Some-clause-way
returns-in-Some-clause-way g c =
    let p = point c.args.from.0 c.args.from.1 in
    c.way.ensures ∙ ap (λ (d : DistancesOf). way d.ground d.signals p d.place) c.in-Some.ensures

pub returns-in-Some-2-clause-way : goal.returns-in-Some-2-clause-way
returns-in-Some-2-clause-way g c =
    let p = point c.args.from.0 c.args.from.1 in
    let x = c.self.inside in
    let ground = arc_value x.ground in
    let made : MatchOption c.in_ok-to.field-0 (place_of ground c.args.place ≡ None) (λ d. d ≡ distances_of ground x.signals c.args.place) = c.in_ok-to.ensures in
    let is = subst (λ (o : Option DistancesOf). MatchOption o (place_of ground c.args.place ≡ None) (λ d. d ≡ distances_of ground x.signals c.args.place)) c.in-Some-2.is made in
    c.way-in-Some-2.ensures ∙ ap (λ (d : DistancesOf). way d.ground d.signals p d.place) is
    ∙ ap (λ (k : DistanceCacheOf). way k.ground k.signals p c.args.place) c.self.view_is
