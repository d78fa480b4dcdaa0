use Rattle.std.proofs.Common.{◌∙◌, ap, Some}
use Rattle.std.proofs.Common.{position}
use Rattle.grid_world.specs.Grid.{point_of, same_point}
use Rattle.grid_world.specs.World.{point}
use Rattle.grid_world.proofs.Drawn.{glyph-on_map}
use Rattle.grid_world.proofs.world.World.glyph_at.Goals as goal

pub returns-in-Some : goal.returns-in-Some
returns-in-Some c =
    let p = point c.args.x c.args.y in
    ap Some c.glyph_of.ensures
    ∙ glyph-on_map c.args.self.now c.args.signals p c.in-Some.cell _ _ c.in-Some.ensures
    (c.agent_on.ensures.value
    ∙ ap (position (λ a. same_point (point_of a) p)) c.agents.ensures.value) c.has_item.ensures
