use Rattle.std.proofs.Common.{◌∙◌, ◌-◌, ap}
use Rattle.grid_world.specs.Grid.{is_on_map}
use Rattle.grid_world.specs.Way.{way}
use Rattle.grid_world.specs.World.{point}
use Rattle.frame_state.specs.Names.{FrameOf}
use Rattle.frame_parts.specs.Distances.{DistancesOf}
use Rattle.game_rules.proofs.Ground.{map_stays}
use Rattle.frame_state.proofs.KnownWays.{one_ground, read_way, cell_seen}
use Rattle.frame_state.proofs.frame_start.FrameStart.way_by.Goals as goal

pub returns : goal.returns
returns c =
    let s : FrameOf = c.args.self.now in
    let p = point c.cell_on.result.0 c.cell_on.result.1 in
    c.way.ensures ∙ ap (λ (d : DistancesOf). way d.ground d.signals p d.place) c.requires.place
    ∙ read_way s.game s.frame c.args.agent c.args.place p (c.cell_on.ensures.cell ∙ cell_seen s.game s.frame c.args.agent c.world.result.now c.world.ensures.value)

pub way-requires : goal.way-requires
way-requires c =
    let s : FrameOf = c.args.self.now in
    let p = point c.cell_on.result.0 c.cell_on.result.1 in
    ap (λ (d : DistancesOf). is_on_map d.ground p) c.requires.place ∙ map_stays s.game.world c.world.result.now (one_ground s.game (s.frame - 1) c.world.result.now c.world.ensures.value) p c.cell_on.ensures.there
