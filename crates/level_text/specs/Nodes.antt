-- The node that a JSON value spells: an array of a head and its arguments.
use Rattle.std.specs.Prelude.{ℕ, List, codes, if◌then◌else◌, Option, Some, None, option_map, option_and_then}
use Rattle.std.specs.Str.{bytes_eq}
use Rattle.serde_json.specs.Data.{Data, null, boolean, number, string, array, object, Items, no_items, item}
use Rattle.serde_json.specs.Find.{as_str}
use Rattle.bt_nodes.specs.Plain.{Plain, Composite, Star, Par, Not, Tries, Ticks, Wait, Move, Does, Seq, Fallback, Forest, none, tree}
use Rattle.level_text.specs.Arguments.{first, only, count_in, place_in}
use Rattle.level_text.specs.Leaves.{leaf_of}

-- the node of a head that takes no node
abbrev pub childless_of : List ℕ → Items → Option Plain
childless_of head arguments =
    if bytes_eq head (codes "wait") then option_map Wait (option_and_then count_in (only arguments))
    else (if bytes_eq head (codes "move") then option_map Move (option_and_then place_in (only arguments))
    else option_map Does (leaf_of head arguments))

-- a number, and what stands behind it
abbrev pub numbered : {B : Type 0} → Items → Option B → Option (ℕ × B)
numbered arguments behind = option_and_then (λ n. option_map (λ b. (n, b)) behind) (option_and_then count_in (first arguments))

-- what arguments spell where they are nodes, where they are one node, and where a number stands before these
pub record Arguments : Type 0 where
  pub all : Items
  pub nodes : Option Forest
  pub node : Option Plain
  pub nodes_behind : Option Forest
  pub node_behind : Option Plain

abbrev pub form_of : List ℕ → Arguments → Option Plain
form_of head arguments =
    if bytes_eq head (codes "seq") then option_map (Composite Seq) arguments.nodes
    else (if bytes_eq head (codes "fallback") then option_map (Composite Fallback) arguments.nodes
    else (if bytes_eq head (codes "seq*") then option_map (Star Seq) arguments.nodes
    else (if bytes_eq head (codes "fallback*") then option_map (Star Fallback) arguments.nodes
    else (if bytes_eq head (codes "par") then option_map (λ p. Par p.0 p.1) (numbered arguments.all arguments.nodes_behind)
    else (if bytes_eq head (codes "not") then option_map Not arguments.node
    else (if bytes_eq head (codes "tries") then option_map (λ p. Tries p.0 p.1) (numbered arguments.all arguments.node_behind)
    else (if bytes_eq head (codes "ticks") then option_map (λ p. Ticks p.0 p.1) (numbered arguments.all arguments.node_behind)
    else childless_of head arguments.all)))))))

abbrev mutual
  pub node_of : Data → Option Plain
  node_of null = None
  node_of (boolean b) = None
  node_of (number n) = None
  node_of (string s) = None
  node_of (array ds) = node_in ds
  node_of (object ms) = None

  -- the first item is a text, the head
  pub node_in : Items → Option Plain
  node_in no_items = None
  node_in (item head arguments) =
      option_and_then (λ name. form_of name (record { all = arguments; nodes = forest_in arguments; node = child_in arguments; nodes_behind = forest_behind arguments; node_behind = child_behind arguments })) (as_str head)

  -- each item is a node
  pub forest_in : Items → Option Forest
  forest_in no_items = Some none
  forest_in (item d ds) = option_and_then (λ p. option_map (tree p) (forest_in ds)) (node_of d)

  -- the one item is a node
  pub child_in : Items → Option Plain
  child_in no_items = None
  child_in (item d no_items) = node_of d
  child_in (item d (item e ds)) = None

  pub forest_behind : Items → Option Forest
  forest_behind no_items = None
  forest_behind (item d ds) = forest_in ds

  pub child_behind : Items → Option Plain
  child_behind no_items = None
  child_behind (item d ds) = child_in ds
