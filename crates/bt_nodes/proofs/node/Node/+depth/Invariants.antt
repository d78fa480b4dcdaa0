use Rattle.std.proofs.Common.{◌≡◌, min, max, ◌+◌, ◌*◌, ◌≤◌, drop}
use Rattle.bt_nodes.specs.Plain.{plain, plains}
use Rattle.bt_nodes.specs.Sizes.{size, sizes, deepest}
use Rattle.bt_nodes.proofs.node.Node.+depth.Given as goal

abbrev pub decreases-depth : goal.decreases-depth
decreases-depth g l = 2 * size (plain l.self.now)

abbrev pub decreases-deepest : goal.decreases-deepest
decreases-deepest g l = 2 * sizes (plains l.nodes.now) + 1

abbrev pub invariant-deepest-nodes : goal.invariant-deepest-nodes
invariant-deepest-nodes g l = record {
  fits : l.most ≤ 18446744073709551615;
  left :
      min (max l.most (deepest (plains (drop l.node-index l.nodes)))) 18446744073709551615
      ≡ min (deepest (plains l.nodes)) 18446744073709551615;
}
