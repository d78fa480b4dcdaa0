use Rattle.std.proofs.Common.{◌≡◌, ◌++◌, drop}
use Rattle.frame_parts.proofs.distance_cache.shared.Given as goal

abbrev pub invariant-all : goal.invariant-all
invariant-all l = l.them.items ++ drop l.one-index l.all ≡ l.all
