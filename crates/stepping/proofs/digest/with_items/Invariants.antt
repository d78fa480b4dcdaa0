use Rattle.std.proofs.Common.{◌≡◌, ◌*◌, drop}
use Rattle.stepping.specs.Digest.{fnv_all, item_bytes}
use Rattle.stepping.proofs.digest.with_items.Given as goal

abbrev pub invariant-rows : goal.invariant-rows
invariant-rows l = fnv_all l.so_far (item_bytes (l.y * l.world.width) (drop (l.y * l.world.width) l.world.items)) ≡ fnv_all l.hash (item_bytes 0 l.world.items)
