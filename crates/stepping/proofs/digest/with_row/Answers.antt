use Rattle.std.proofs.Common.{◌≡◌, ◌<◌, ◌≤◌, ◌+◌, ◌*◌, ◌∙◌, ◌&&◌, ℕ, Bool, List, true, false, length, drop, get_or, nat_lt, ap, sym, arith, subst}
use Rattle.grid_world.specs.Grid.{has_item}
use Rattle.grid_world.specs.World.{point}
use Rattle.grid_world.proofs.Drawn.{row_within}
use Rattle.stepping.specs.Digest.{fnv_all, item_bytes}
use Rattle.stepping.proofs.Fnv.{item_in}
use Rattle.stepping.proofs.digest.with_row.Goals as goal

pub cells-preserved : goal.cells-preserved
cells-preserved c =
    let g = c.args.world.now in
    let items : List Bool = g.items in
    let width : ℕ = c.width-width.result in
    let w_is : width ≡ g.width = c.width-width.ensures.value in
    let x : ℕ = c.cells.x in
    let y : ℕ = c.args.y in
    let hx : x < width = c.cells-test.true in
    let hx' : x < g.width = subst (λ (n : ℕ). x < n) w_is hx in
    let hy : y < g.height = c.requires in
    let start : ℕ = y * width in
    let start_is : start ≡ y * g.width = ap (λ (n : ℕ). y * n) w_is in
    let row : y * g.width + g.width ≤ g.width * g.height = row_within g.width g.height y hy in
    let all : length items ≡ g.width * g.height = c.width-width.ensures.world.all_items in
    let lt : start + x < length items = omega (arith, row, all, hx', start_is) in
    let a : nat_lt x g.width ≡ true = grind (arith, hx') in
    let b : nat_lt y g.height ≡ true = grind (arith, hy) in
    let there : (nat_lt x g.width && nat_lt y g.height) ≡ true = ap (λ (t : Bool). t && nat_lt y g.height) a ∙ b in
    let is : get_or items (start + x) false ≡ c.has_item.result =
    ap (λ (n : ℕ). get_or items (n + x) false) start_is ∙ sym (c.has_item.ensures ∙ ap (λ (t : Bool). t && has_item g (point x y)) there) in
    let next : start + x + 1 ≡ start + (x + 1) = omega arith in
    ap (λ (n : ℕ). fnv_all c.with_cell-so_far.result (item_bytes n (drop n items))) (sym next)
    ∙ item_in items (start + x) c.cells.so_far (fnv_all c.args.hash (item_bytes start (drop start items))) c.has_item.result c.with_cell-so_far.result lt is c.with_cell-so_far.ensures c.cells.invariant
