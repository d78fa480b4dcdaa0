use Rattle.std.proofs.Common.{◌≡◌, ◌++◌, map}
use Rattle.level_text.specs.Drafts.{node_view}
use Rattle.game_session.specs.Faults.{limit_fault}
use Rattle.game_session.specs.Kept.{trees_view}
use Rattle.level_text.proofs.read.trees_within.Given as goal

abbrev pub invariant-nodes : goal.invariant-nodes
invariant-nodes l =
    (limit_fault (map node_view l.named-iterator.rest.items) ≡ limit_fault (map node_view l.initial.named-iterator.rest.items))
    × (trees_view l.trees.items ++ map node_view l.named-iterator.rest.items ≡ map node_view l.initial.named-iterator.rest.items)
