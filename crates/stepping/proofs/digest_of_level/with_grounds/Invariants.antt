use Rattle.std.proofs.Common.{◌≡◌, drop}
use Rattle.std.specs.List.{flat_map}
use Rattle.stepping.specs.Digest.{fnv_all}
use Rattle.stepping.specs.LevelDigest.{cell_bytes}
use Rattle.stepping.proofs.digest_of_level.with_grounds.Given as goal

abbrev pub invariant-cells : goal.invariant-cells
invariant-cells l = fnv_all l.so_far (flat_map cell_bytes (drop l.cell-index l.cells)) ≡ fnv_all l.hash (flat_map cell_bytes l.cells)
