use Rattle.std.proofs.Common.{◌≡◌, ◌+◌, ◌*◌, drop}
use Rattle.bt_nodes.specs.Plain.{plain, plains}
use Rattle.bt_nodes.specs.Sizes.{size, sizes}
use Rattle.stepping.specs.Digest.{fnv_all}
use Rattle.stepping.specs.LevelDigest.{forest_bytes}
use Rattle.stepping.proofs.digest_of_level.+nodes.Given as goal

abbrev pub decreases-with_tree : goal.decreases-with_tree
decreases-with_tree l = 2 * size (plain l.node.now)

abbrev pub decreases-with_trees : goal.decreases-with_trees
decreases-with_trees l = 2 * sizes (plains l.nodes.now) + 1

abbrev pub invariant-with_trees-nodes : goal.invariant-with_trees-nodes
invariant-with_trees-nodes l = fnv_all l.so_far (forest_bytes (plains (drop l.node-index l.nodes))) ≡ fnv_all l.hash (forest_bytes (plains l.nodes))
