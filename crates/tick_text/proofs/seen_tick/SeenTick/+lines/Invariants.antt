use Rattle.std.proofs.Common.{◌≡◌, ◌≤◌, ◌+◌, ◌*◌, ◌++◌, drop}
use Rattle.bt_nodes.specs.Plain.{plain, plains}
use Rattle.bt_nodes.specs.Sizes.{size, sizes}
use Rattle.tick_text.specs.Seen.{tick_of}
use Rattle.tick_text.specs.Lines.{forest_lines}
use Rattle.tick_text.proofs.seen_tick.SeenTick.+lines.Given as goal

abbrev pub decreases-push_tree : goal.decreases-push_tree
decreases-push_tree l = 2 * size (plain l.node.now)

abbrev pub decreases-push_trees : goal.decreases-push_trees
decreases-push_trees l = 2 * sizes (plains l.nodes.now) + 1

abbrev pub invariant-push_trees-nodes : goal.invariant-push_trees-nodes
invariant-push_trees-nodes l = record {
  text : l.text.items ++ forest_lines (tick_of l.self) (plains (drop l.node-index l.nodes)) l.next l.depth
      ≡ l.initial.text.items ++ forest_lines (tick_of l.self) (plains l.nodes) l.number l.depth;
  next : l.next + sizes (plains (drop l.node-index l.nodes)) ≡ l.number + sizes (plains l.nodes);
  deep : l.number ≤ l.next;
}
