use Rattle.std.proofs.Common.{◌∙◌, ◌-◌, ap}
use Rattle.grid_world.specs.Grid.{is_on_map}
use Rattle.grid_world.specs.Way.{way}
use Rattle.grid_world.specs.World.{point}
use Rattle.frame_state.specs.Names.{FrameOf}
use Rattle.frame_parts.specs.Distances.{DistanceCacheOf}
use Rattle.game_rules.proofs.Ground.{map_stays}
use Rattle.frame_state.proofs.KnownWays.{one_ground, read_way, cell_seen}
use Rattle.frame_state.proofs.frame_start.FrameStart.way_to.Goals as goal

pub way-requires : goal.way-requires
way-requires g c =
    let s : FrameOf = c.args.self.now in
    let p = point c.cell_on-from.result.0 c.cell_on-from.result.1 in
    ap (λ (k : DistanceCacheOf). is_on_map k.ground p) c.known.ensures
    ∙ map_stays s.game.world c.world.result.now (one_ground s.game (s.frame - 1) c.world.result.now c.world.ensures.value) p c.cell_on-from.ensures.there

pub returns-clause-way : goal.returns-clause-way
returns-clause-way g c =
    let s : FrameOf = c.args.self.now in
    let p = point c.cell_on-from.result.0 c.cell_on-from.result.1 in
    c.in_ok-way.ensures.way ∙ ap (λ (k : DistanceCacheOf). way k.ground k.signals p c.args.place) c.known.ensures
    ∙ read_way s.game s.frame c.args.agent c.args.place p (c.cell_on-from.ensures.cell ∙ cell_seen s.game s.frame c.args.agent c.world.result.now c.world.ensures.value)
