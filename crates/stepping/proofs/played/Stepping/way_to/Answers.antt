use Rattle.std.proofs.Common.{◌∙◌, ap, ℕ}
use Rattle.grid_world.specs.Grid.{Point}
use Rattle.grid_world.specs.Way.{way}
use Rattle.grid_world.specs.World.{point}
use Rattle.frame_parts.specs.Distances.{DistanceCacheOf}
use Rattle.game_rules.proofs.Ground.{way_stays, map_stays}
use Rattle.stepping.specs.Played.{Played, way_under}
use Rattle.stepping.proofs.GroundUnder.{ground_under}
use Rattle.stepping.proofs.played.Stepping.way_to.Goals as goal

pub way-requires : goal.way-requires
way-requires c =
    let x = c.self.inside in
    map_stays c.in_ok-known.known.ground x.world (ground_under _ c.in_ok-known.known x.known c.args.signals c.in_ok-known.ensures c.self.invariant.1 x.world c.self.invariant.0.ground)
    (point c.cell_on-cell.result.0 c.cell_on-cell.result.1) c.cell_on-cell.ensures.there

pub returns : goal.returns
returns c =
    let x = c.self.inside in
    let a : ℕ = c.args.agent in
    let place : ℕ = c.args.place in
    let at : Point = point c.cell_on-cell.result.0 c.cell_on-cell.result.1 in
    c.in_ok-answer.ensures.way
    ∙ way_stays c.in_ok-known.known.ground x.world (ground_under _ c.in_ok-known.known x.known c.args.signals c.in_ok-known.ensures c.self.invariant.1 x.world c.self.invariant.0.ground)
    c.in_ok-known.known.signals at place
    ∙ ap (λ (k : DistanceCacheOf). way x.world k.signals at place) c.in_ok-known.ensures
    ∙ ap (λ (q : Point). way x.world c.args.signals q place) c.cell_on-cell.ensures.cell
    ∙ ap (λ (p : Played). way_under p c.args.signals a place) c.self.view_is
