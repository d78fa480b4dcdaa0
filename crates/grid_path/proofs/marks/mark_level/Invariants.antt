use Rattle.std.proofs.Common.{◌≡◌, ◌≢◌, ◌<◌, ◌≤◌, ℕ, length}
use Rattle.std.specs.Prelude.{slice_index}
use Rattle.grid_path.proofs.marks.mark_level.Given as goal

abbrev pub invariant-cells : goal.invariant-cells
invariant-cells l = record {
  marked : (j : ℕ) → l.head ≤ j → j < l.l → slice_index l.marks (slice_index l.queue j) ≡ l.mark;
  kept : (i : ℕ) → ((j : ℕ) → l.head ≤ j → j < l.l → slice_index l.queue j ≢ i) → slice_index l.marks i ≡ slice_index l.fn.marks i;
  long : length l.marks ≡ length l.fn.marks;
}
