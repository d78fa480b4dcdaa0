use Rattle.std.proofs.Common.{ℕ, ◌+◌, ◌-◌, ◌<◌, ◌≤◌, length}
use Rattle.std.specs.Prelude.{slice_index, count_by}
use Rattle.grid_world.specs.declared.cell.Dir.{Dir}
use Rattle.grid_path.specs.Levels.{at, Level, Nears}
use Rattle.grid_path.proofs.search.search.Given as goal

abbrev pub invariant-loop-head : goal.invariant-loop-head
invariant-loop-head l = record {
  level : Level (at l.fn.unmet) l.stride l.goal (at l.unmet) (slice_index l.queue) l.head l.met l.steps;
  far : (d : Dir) (n : ℕ) → Nears (at l.fn.unmet) l.stride l.goal l.from n d → l.steps ≤ n;
  room : count_by (λ c. c) l.unmet + l.met < length l.queue;
  short : l.steps ≤ l.head;
}

abbrev pub decreases-loop-head : goal.decreases-loop-head
decreases-loop-head l = length l.initial.queue - l.head
