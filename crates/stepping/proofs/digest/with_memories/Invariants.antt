use Rattle.std.proofs.Common.{◌≡◌, drop}
use Rattle.std.specs.List.{flat_map}
use Rattle.stepping.specs.Digest.{fnv_all, memory_bytes}
use Rattle.stepping.proofs.digest.with_memories.Given as goal

abbrev pub invariant-agents : goal.invariant-agents
invariant-agents l = fnv_all l.so_far (flat_map memory_bytes (drop l.agent l.memories)) ≡ fnv_all l.hash (flat_map memory_bytes l.memories)
