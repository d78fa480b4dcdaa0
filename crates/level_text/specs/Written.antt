-- The JSON value of a level, and its text.
use Rattle.std.specs.Prelude.{ℕ, ◌+◌, List, [], ◌∷◌, codes, Option, Some, None, option_map}
use Rattle.serde_json.specs.Data.{Data, number, unsigned, string, array, object, Items, no_items, item, Members, no_members, member}
use Rattle.serde_json.specs.Written.{compact_text}
use Rattle.bt_nodes.specs.declared.leaf.Leaf.{Leaf}
use Rattle.bt_nodes.specs.Plain.{Plain, Composite, Star, Par, Not, Tries, Ticks, Wait, Move, Does, Kind, Seq, Fallback, Forest, none, tree}
use Rattle.game_session.specs.Parts.{Parts, NamedPlain}
use Rattle.level_text.specs.Arguments.{mark, argument_data}
use Rattle.level_text.specs.Leaves.{leaf_head, leaf_argument}

-- ---- nodes

abbrev pub form : List ℕ → Items → Data
form head arguments = array (item (string head) arguments)

abbrev pub counted : ℕ → Items → Items
counted n items = item (number (unsigned n)) items

-- a node's own argument stands before the others
abbrev pub own_before : Option Data → Items → Items
own_before None rest = rest
own_before (Some d) rest = item d rest

abbrev pub leaf_data : Leaf → Data
leaf_data leaf = form (leaf_head leaf) (own_before (option_map argument_data (leaf_argument leaf)) no_items)

abbrev pub list_head : Kind → List ℕ
list_head Seq = codes "seq"
list_head Fallback = codes "fallback"

abbrev pub star_head : Kind → List ℕ
star_head Seq = codes "seq*"
star_head Fallback = codes "fallback*"

abbrev mutual
  pub node_data : Plain → Data
  node_data (Composite kind children) = form (list_head kind) (forest_data children)
  node_data (Star kind children) = form (star_head kind) (forest_data children)
  node_data (Par m children) = form (codes "par") (counted m (forest_data children))
  node_data (Not child) = form (codes "not") (item (node_data child) no_items)
  node_data (Tries n child) = form (codes "tries") (counted n (item (node_data child) no_items))
  node_data (Ticks n child) = form (codes "ticks") (counted n (item (node_data child) no_items))
  node_data (Wait n) = form (codes "wait") (counted n no_items)
  node_data (Move p) = form (codes "move") (item (mark (48 + p)) no_items)
  node_data (Does leaf) = leaf_data leaf

  pub forest_data : Forest → Items
  forest_data none = no_items
  forest_data (tree child children) = item (node_data child) (forest_data children)

-- ---- levels

abbrev pub texts_data : List (List ℕ) → Items
texts_data [] = no_items
texts_data (s ∷ ss) = item (string s) (texts_data ss)

abbrev pub trees_data : List NamedPlain → Members
trees_data [] = no_members
trees_data (t ∷ ts) = member t.name (node_data t.tree) (trees_data ts)

abbrev pub level_data : Parts → Data
level_data parts =
    object (member (codes "agents") (array (texts_data parts.names))
    (member (codes "map") (array (texts_data parts.rows))
    (member (codes "trees") (object (trees_data parts.trees)) no_members)))

-- the compact text: no space, the keys `agents`, `map`, `trees`, and the trees in the order in which they stand
abbrev pub level_text : Parts → List ℕ
level_text parts = compact_text (level_data parts)
