-- The fault of one tree.
use Rattle.std.specs.Prelude.{Option, option_map}
use Rattle.bt_nodes.specs.Limits.{tree_fault}
use Rattle.game_session.specs.Parts.{NamedPlain}
use Rattle.game_session.specs.Faults.{Fault, bad_tree}

-- the limit that a tree breaks
abbrev pub own_fault : NamedPlain → Option Fault
own_fault t = option_map (bad_tree t.name) (tree_fault t.tree)
