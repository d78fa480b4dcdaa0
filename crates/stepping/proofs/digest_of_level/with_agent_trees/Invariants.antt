use Rattle.std.proofs.Common.{◌≡◌, drop}
use Rattle.std.specs.List.{flat_map}
use Rattle.game_session.specs.Levels.{value_of, agent_trees}
use Rattle.stepping.specs.Digest.{fnv_all}
use Rattle.stepping.specs.LevelDigest.{tree_bytes}
use Rattle.stepping.proofs.digest_of_level.with_agent_trees.Given as goal

abbrev pub invariant-agents : goal.invariant-agents
invariant-agents l = fnv_all l.so_far (flat_map tree_bytes (drop l.agent (agent_trees (value_of l.level)))) ≡ fnv_all l.hash (flat_map tree_bytes (agent_trees (value_of l.level)))
