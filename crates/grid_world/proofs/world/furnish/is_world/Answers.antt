use Rattle.std.proofs.Common.{◌≤◌, ◌*◌, ◌∙◌, length, ap, sym, subst, arith}
use Rattle.grid_world.specs.Ground.{AreOffWalls}
use Rattle.grid_world.proofs.Furnished.{makes_world, items_off_walls}
use Rattle.grid_world.proofs.world.furnish.is_world.Goals as goal

pub returns-clause-world : goal.returns-clause-world
returns-clause-world c off =
    let few : length c.args.agents.now ≤ 26 = omega (arith, c.if-agents-gt26.false) in
    makes_world c.args.ground.now c.args.items.now c.args.agents.now c.width.ensures.sized
    (c.if-items-count.false ∙ ap (λ w. w * c.height.result) c.width.ensures.value ∙ ap (λ h. c.args.ground.now.width * h) c.height.ensures.value) few
    (c.are_standing.ensures.standing c.if-not-are_standing.false) (c.are_apart.ensures.apart c.if-not-are_apart.false) (subst (λ cells. AreOffWalls cells c.args.items.now) c.cells.ensures (c.are_off_walls.ensures.off off))

pub returns-clause-other : goal.returns-clause-other
returns-clause-other c wall world = c.are_off_walls.ensures.other wall (subst (λ cells. AreOffWalls cells c.args.items.now) (sym c.cells.ensures) (items_off_walls c.args.ground.now c.args.items.now c.args.agents.now world))
