use Rattle.std.proofs.Common.{◌≡◌, ◌<◌, ◌≤◌, ◌∙◌, ◌&&◌, ◌++◌, ℕ, Bool, List, true, nat_lt, ap, arith, codes, decimal, if◌then◌else◌, []}
use Rattle.std.specs.List.{flat_map}
use Rattle.grid_world.specs.Grid.{has_item}
use Rattle.grid_world.specs.Map.{count_up}
use Rattle.grid_world.specs.World.{point}
use Rattle.draw_list.proofs.Counting.{pieces_more, pieces_end}
use Rattle.stepping.specs.StateText.{item_line}
use Rattle.stepping.proofs.state_text.push_row.Goals as goal

pub cells-preserved : goal.cells-preserved
cells-preserved c =
    let g = c.args.world.now in
    let x : ℕ = c.cells.x in
    let y : ℕ = c.args.y in
    let hx : x < g.width = omega (arith, c.cells-test.true, c.width-x-end.ensures.value) in
    let hy : y < g.height = c.requires in
    let a : nat_lt x g.width ≡ true = grind (arith, hx) in
    let b : nat_lt y g.height ≡ true = grind (arith, hy) in
    let there : (nat_lt x g.width && nat_lt y g.height) ≡ true = ap (λ (t : Bool). t && nat_lt y g.height) a ∙ b in
    let here : c.has_item.result ≡ has_item g (point x y) = c.has_item.ensures ∙ ap (λ (t : Bool). t && has_item g (point x y)) there in
    let line : Bool → List ℕ = λ t. if t then codes "item " ++ decimal x ++ codes "," ++ decimal y ++ codes "\n" else [] in
    pieces_more (item_line g y) c.cells.text.items c.push_item.new.text.items (c.args.text.now.items ++ flat_map (item_line g y) (count_up 0 g.width)) x g.width hx
    (c.in_ok-push_item.ensures ∙ ap (λ t. c.cells.text.items ++ line t) here) c.cells.invariant

pub returns : goal.returns
returns c =
    let g = c.args.world.now in
    let le : g.width ≤ c.cells.x = omega (arith, c.cells-test.false, c.width-x-end.ensures.value) in
    pieces_end (item_line g c.args.y) c.cells.text.items (c.args.text.now.items ++ flat_map (item_line g c.args.y) (count_up 0 g.width)) c.cells.x g.width le c.cells.invariant
