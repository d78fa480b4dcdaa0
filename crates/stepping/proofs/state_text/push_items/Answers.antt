use Rattle.std.proofs.Common.{◌<◌, ◌≤◌, ◌++◌, arith}
use Rattle.std.specs.List.{flat_map}
use Rattle.grid_world.specs.Map.{count_up}
use Rattle.draw_list.proofs.Counting.{pieces_more, pieces_end}
use Rattle.stepping.specs.StateText.{item_line, item_lines}
use Rattle.stepping.proofs.state_text.push_items.Goals as goal

pub rows-preserved : goal.rows-preserved
rows-preserved c =
    let g = c.args.world.now in
    let hy : c.rows.y < g.height = omega (arith, c.rows-test.true, c.height-y-end.ensures.value) in
    pieces_more (λ y. flat_map (item_line g y) (count_up 0 g.width)) c.rows.text.items c.push_row.new.text.items (c.args.text.now.items ++ item_lines g) c.rows.y g.height hy
    c.in_ok-push_row.ensures c.rows.invariant

pub returns : goal.returns
returns c =
    let g = c.args.world.now in
    let le : g.height ≤ c.rows.y = omega (arith, c.rows-test.false, c.height-y-end.ensures.value) in
    pieces_end (λ y. flat_map (item_line g y) (count_up 0 g.width)) c.rows.text.items (c.args.text.now.items ++ item_lines g) c.rows.y g.height le c.rows.invariant
