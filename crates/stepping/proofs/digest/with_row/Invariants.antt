use Rattle.std.proofs.Common.{◌≡◌, ◌+◌, drop}
use Rattle.stepping.specs.Digest.{fnv_all, item_bytes}
use Rattle.stepping.proofs.digest.with_row.Given as goal

abbrev pub invariant-cells : goal.invariant-cells
invariant-cells l = fnv_all l.so_far (item_bytes (l.first + l.x) (drop (l.first + l.x) l.world.items)) ≡ fnv_all l.hash (item_bytes l.first (drop l.first l.world.items))
