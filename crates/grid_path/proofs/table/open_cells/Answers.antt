use Rattle.std.proofs.Common.{◌≡◌, ◌+◌, arith}
use Rattle.std.proofs.Common.{false, ap, ◌∙◌, ◌++◌}
use Rattle.std.specs.Prelude.{replicate}
use Rattle.grid_world.specs.Ground.{no_signals}
use Rattle.grid_path.proofs.Cells.{first_row, inner_row, last_row}
use Rattle.grid_path.proofs.table.open_cells.Goals as goal

pub loop-y-init : goal.loop-y-init
loop-y-init g c =
    let wide = c.width.ensures.value in
    let long : c.width.result + 2 ≡ c.args.world.now.width + 2 = omega (arith, wide) in
    first_row c.args.world.now no_signals c.in_ok-table.table.items c.push_border.new.table.items c.in_ok-table.ensures.items
    (c.in_ok-push_border.ensures ∙ ap (λ n. c.in_ok-table.table.items ++ replicate n false) long)

pub loop-y-preserved : goal.loop-y-preserved
loop-y-preserved g c =
    inner_row c.args.world.now no_signals c.loop-y.table.items c.push.new.self.items c.push_row.new.table.items c.push-in-loop-y.new.self.items c.loop-y.y
    c.loop-y.invariant c.in_ok-push.ensures.items c.in_ok-push_row.ensures c.in_ok-push-2.ensures.items

pub open_doors-requires : goal.open_doors-requires
open_doors-requires g c =
    let world = c.args.world.now in
    let wide = c.width.ensures.value in
    let high = c.height-y-end.ensures.value in
    let long : c.width.result + 2 ≡ world.width + 2 = omega (arith, wide) in
    rw c.deref_mut.ensures.value
    (last_row world no_signals c.loop-y.table.items c.push_border-2.new.table.items c.loop-y.y (omega (arith, high)) c.loop-y.invariant
    (c.in_ok-push_border-2.ensures ∙ ap (λ n. c.loop-y.table.items ++ replicate n false) long))
