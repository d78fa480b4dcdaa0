use Rattle.std.proofs.Common.{◌≡◌, ◌+◌, ◌-◌, ◌<◌, ◌≤◌, length}
use Rattle.std.specs.Prelude.{slice_index, count_by}
use Rattle.grid_path.specs.Levels.{at}
use Rattle.grid_path.specs.Distances.{Measuring}
use Rattle.grid_path.proofs.marks.measure.Given as goal

abbrev pub invariant-levels : goal.invariant-levels
invariant-levels l = record {
  so_far : Measuring (at l.fn.unmet) l.stride l.goal (at l.unmet) (slice_index l.queue) (slice_index l.marks) l.head l.met l.steps;
  room : count_by (λ c. c) l.unmet + l.met < length l.queue;
  short : l.steps ≤ l.head;
  long : length l.marks ≡ length l.fn.marks;
}

abbrev pub decreases-levels : goal.decreases-levels
decreases-levels l = length l.initial.queue - l.head
