use Rattle.std.proofs.Common.{ℕ, ◌≡◌, ◌<◌, ◌≤◌, false, get_or, if◌then◌else◌}
use Rattle.grid_world.proofs.world.draw.draw_items.Given as goal

abbrev pub invariant-cells : goal.invariant-cells
invariant-cells l = record {
  done : (k : ℕ) → k < l.x → get_or l.row k 0 ≡ (if get_or l.items k false then 42 else get_or l.fn.row k 0);
  left : (k : ℕ) → l.x ≤ k → get_or l.row k 0 ≡ get_or l.fn.row k 0;
}
