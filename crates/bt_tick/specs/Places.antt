-- Where a node stands in its tree, and what the open nodes of a tick keep.
use Rattle.std.specs.Prelude.{◌≡◌, ◌<◌, ◌≤◌, ℕ, suc, ◌+◌, ◌*◌, List, [], ◌∷◌, length, slice_index}
use Rattle.bt_nodes.specs.Plain.{Plain, Tries, Ticks}
use Rattle.bt_nodes.specs.Sizes.{size, sizes, count, subtree_sizes}
use Rattle.bt_nodes.specs.Bounds.{bounds}
use Rattle.bt_tick.specs.Children.{children_of, from_child, child_number}
use Rattle.bt_tick.specs.Suspended.{Open}

-- these numbers stand in a list from n on
pub record Segment (all : List ℕ) (n : ℕ) (part : List ℕ) : Type 0 where
  pub within : n + length part ≤ length all
  pub same : (k : ℕ) → k < length part → slice_index all (n + k) ≡ slice_index part k

-- a node with the number n in a whole tree: the bounds and the sizes of the nodes from n on are those of its own tree
pub record Sits (whole : Plain) (n : ℕ) (p : Plain) : Type 0 where
  pub bounded : Segment (bounds whole) n (bounds p)
  pub sized : Segment (subtree_sizes whole) n (subtree_sizes p)

-- what the counts of a node stay below, where so many of its children are counted
abbrev pub limit_of : Plain → ℕ → ℕ
limit_of (Tries m c) counted = m
limit_of (Ticks m c) counted = m
limit_of _ counted = counted

-- An open node in a whole tree: the child after the one that is ticked has the number e; there are so
-- many open nodes around it. Its counts are below the number of the children that are begun, the one that is ticked
-- with them.
pub record Standing (whole : Plain) (counting e around : ℕ) (f : Open) : Type 0 where
  pub sits : Sits whole f.number f.node
  pub some : 1 ≤ counting
  pub begun : f.next ≤ count (children_of f.node)
  pub counts : f.won + f.lost < limit_of f.node counting
  pub following : child_number f.next (children_of f.node) (f.number + 1) ≡ e
  pub deep : around ≤ f.number

-- the open nodes stand within one another, the innermost first, whose child ends before the number e
abbrev pub Nested : Plain → ℕ → List Open → Type 0
Nested whole e [] = Unit {0}
Nested whole e (f ∷ fs) = Standing whole f.next e (length fs) f × Nested whole (f.number + size f.node) fs

-- the same for an innermost node none of whose children is being ticked
abbrev pub Resting : Plain → ℕ → Open → List Open → Type 0
Resting whole e f fs = Standing whole (suc f.next) e (length fs) f × Nested whole (f.number + size f.node) fs

-- how many steps an open node has left at most
abbrev pub weight_of : Open → ℕ
weight_of f = 1 + 2 * sizes (from_child f.next (children_of f.node))

abbrev pub weight_all : List Open → ℕ
weight_all [] = 0
weight_all (f ∷ fs) = weight_of f + weight_all fs
