use Rattle.std.proofs.Common.{ℕ, ◌/◌, ◌%◌, ◌<◌, get_or, length, ap, ◌∙◌, arith}
use Rattle.std.proofs.lemmas.List.Elements.{All-get_or}
use Rattle.grid_world.specs.Open.{is_open}
use Rattle.grid_world.specs.World.{point}
use Rattle.grid_path.proofs.Doors.{opened_none, opened_more, door_number}
use Rattle.grid_path.proofs.table.open_doors.Goals as goal

pub loop-door-init : goal.loop-door-init
loop-door-init c =
    opened_none c.args.world.now c.args.signals c.doors-door-items.result.now c.args.table.now c.width-width.ensures.world.sized c.doors-door-items.ensures c.requires

pub loop-door-preserved : goal.loop-door-preserved
loop-door-preserved c =
    let world = c.args.world.now in
    let doors = c.doors-door-items.result.now in
    let wide = c.width-width.ensures.value in
    let d : ℕ = get_or doors c.loop-door.door-index 0 in
    let below : c.loop-door.door-index < length doors = omega arith in
    opened_more world c.args.signals doors c.loop-door.door-index c.loop-door.table _ c.is_open.result c.width-width.ensures.world.sized below
    (All-get_or (λ i. i < length world.cells) doors c.loop-door.door-index 0 below c.doors-door-items.ensures.within)
    (door_number world d c.width-width.result wide)
    (c.is_open.ensures ∙ ap (λ n. is_open world c.args.signals (point (d % n) (d / n))) wide)
    c.loop-door.invariant
