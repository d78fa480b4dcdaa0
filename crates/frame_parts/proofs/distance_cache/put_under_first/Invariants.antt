use Rattle.std.proofs.Common.{◌≤◌, ◌≡◌, length}
use Rattle.std.specs.List.Sorted.{IsPermutation}
use Rattle.frame_parts.proofs.distance_cache.put_under_first.Given as goal

abbrev pub invariant-all : goal.invariant-all
invariant-all l = record {
  moved : IsPermutation l.initial.all l.all;
  first : l.first ≤ l.at;
}
