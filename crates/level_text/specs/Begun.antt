-- What the array of a node begins with, before what lies below the node.
use Rattle.std.specs.Prelude.{ℕ, List, [], ◌∷◌, codes, Bool, true, Option, Some, None, option_map, unwrap_or}
use Rattle.serde_json.specs.Data.{Data, Items, no_items, item}
use Rattle.serde_json.specs.View.{view}
use Rattle.serde_json.specs.declared.value.Value.{Value}
use Rattle.bt_nodes.specs.Plain.{Plain, Composite, Star, Par, Not, Tries, Ticks, Wait, Move, Does}
use Rattle.level_text.specs.declared.argument.Argument.{Argument}
use Rattle.level_text.specs.declared.argument.Argument.TheVariants.{Count, Place}
use Rattle.level_text.specs.Arguments.{argument_data, has_mark}
use Rattle.level_text.specs.Leaves.{leaf_head, leaf_argument}
use Rattle.level_text.specs.Written.{list_head, star_head, node_data, forest_data}

-- the word that names the kind
abbrev pub head : Plain → List ℕ
head (Composite kind children) = list_head kind
head (Star kind children) = star_head kind
head (Par m children) = codes "par"
head (Not child) = codes "not"
head (Tries n child) = codes "tries"
head (Ticks n child) = codes "ticks"
head (Wait n) = codes "wait"
head (Move p) = codes "move"
head (Does leaf) = leaf_head leaf

-- the argument that stands in the node itself
abbrev pub argument : Plain → Option Argument
argument (Par m children) = Some (Count m)
argument (Tries n child) = Some (Count n)
argument (Ticks n child) = Some (Count n)
argument (Wait n) = Some (Count n)
argument (Move p) = Some (Place p)
argument (Does leaf) = leaf_argument leaf
argument _ = None

-- its JSON value
abbrev pub own : Plain → Option Data
own p = option_map argument_data (argument p)

-- the arguments that are nodes
abbrev pub below : Plain → Items
below (Composite kind children) = forest_data children
below (Star kind children) = forest_data children
below (Par m children) = forest_data children
below (Not child) = item (node_data child) no_items
below (Tries n child) = item (node_data child) no_items
below (Ticks n child) = item (node_data child) no_items
below _ = no_items

-- the place that stands in the node itself is a digit, and the signal or the agent a letter
abbrev pub has_own_mark : Plain → Bool
has_own_mark p = unwrap_or (option_map has_mark (argument p)) true

-- values, before items that are left
abbrev pub items_before : List Value → Items → Items
items_before [] rest = rest
items_before (v ∷ vs) rest = item (view v) (items_before vs rest)
