use Rattle.std.proofs.Common.{◌≡◌, ◌+◌}
use Rattle.std.specs.Prelude.{slice_index, count_by}
use Rattle.grid_path.specs.Levels.{at, IsBeside, Meets}
use Rattle.grid_path.proofs.search.expand_level.Given as goal

abbrev pub invariant-loop-l : goal.invariant-loop-l
invariant-loop-l l = record {
  meets : Meets (IsBeside l.stride (slice_index l.fn.queue) l.head l.l) (at l.fn.unmet) (at l.unmet) (slice_index l.fn.queue) (slice_index l.queue) l.end l.met;
  counted : count_by (λ c. c) l.unmet + l.met ≡ count_by (λ c. c) l.fn.unmet + l.end;
}
