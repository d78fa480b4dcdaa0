-- What a level keeps, as the parts of its file.
use Rattle.std.specs.Prelude.{ℕ, List, map, String, string_bytes}
use Rattle.std.specs.List.{position_or_len}
use Rattle.std.specs.declared.alloc.Global.{Global}
use Rattle.bt_nodes.specs.Trees.{plain_of}
use Rattle.game_session.specs.Parts.{NamedPlain, Parts, named}
use Rattle.game_session.specs.Faults.{is_named}
use Rattle.game_session.specs.declared.named_tree.NamedTree.{NamedTree}

abbrev pub tree_view : NamedTree → NamedPlain
tree_view t = named (string_bytes t.name) (plain_of t.tree)

abbrev pub trees_view : List NamedTree → List NamedPlain
trees_view trees = map tree_view trees

abbrev pub texts_view : List (String Global) → List (List ℕ)
texts_view texts = map string_bytes texts

abbrev pub kept : List (String Global) → List (String Global) → List NamedTree → Parts
kept rows names trees = record { rows = texts_view rows; names = texts_view names; trees = trees_view trees }

-- where the tree of a name stands
abbrev pub index_of : List NamedPlain → List ℕ → ℕ
index_of trees name = position_or_len (is_named name) trees
