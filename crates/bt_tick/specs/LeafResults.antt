-- Nodes that are answered by a look at the view.
use Rattle.std.specs.Prelude.{Option, Some, None}
use Rattle.bt_nodes.specs.Plain.{Plain, Does}
use Rattle.game_rules.specs.declared.leaf_result.LeafResult.{LeafResult}
use Rattle.game_rules.specs.View.{View}
use Rattle.game_rules.specs.Tick.{meaning}

-- what a node comes to, where it is a leaf
abbrev pub deed_of : View → Plain → Option LeafResult
deed_of v (Does leaf) = Some (meaning leaf v)
deed_of v _ = None
