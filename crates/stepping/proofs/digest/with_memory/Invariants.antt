use Rattle.std.proofs.Common.{◌≡◌, drop}
use Rattle.std.specs.List.{flat_map}
use Rattle.stepping.specs.Digest.{fnv_all, bytes, memory_bytes}
use Rattle.stepping.proofs.digest.with_memory.Given as goal

abbrev pub invariant-nodes : goal.invariant-nodes
invariant-nodes l = fnv_all l.so_far (flat_map (bytes 2) (drop l.node l.memory)) ≡ fnv_all l.hash (memory_bytes l.memory)
