-- The limits of a tree, and the first one that a tree breaks.
use Rattle.std.specs.Prelude.{ℕ, Bool, true, false, ◌&&◌, nat_le, nat_lt, if◌then◌else◌, Option, Some, None}
use Rattle.bt_nodes.specs.declared.leaf.Leaf.TheVariants.{Near}
use Rattle.bt_nodes.specs.Plain.{Plain, Composite, Star, Par, Not, Tries, Ticks, Wait, Does, Forest, none, tree}
use Rattle.bt_nodes.specs.Sizes.{size, depth, count}
use Rattle.bt_nodes.specs.declared.tree_fault.TreeFault.{TreeFault}
use Rattle.bt_nodes.specs.declared.tree_fault.TreeFault.TheVariants.{TooManyNodes, TooDeep, NoChild, Threshold, Count}
use Rattle.bt_nodes.specs.declared.limits.Limit.{Limit}
use Rattle.bt_nodes.specs.declared.limits.Limit.TheVariants.{Children, Thresholds, Counts}

abbrev pub has_tree : Forest → Bool
has_tree none = false
has_tree (tree child children) = true

-- a node that lists children has one
abbrev pub keeps_child : Plain → Bool
keeps_child (Composite kind children) = has_tree children
keeps_child (Star kind children) = has_tree children
keeps_child (Par m children) = has_tree children
keeps_child _ = true

abbrev pub is_threshold : (m children : ℕ) → Bool
is_threshold m children = nat_le 1 m && nat_le m children

-- a threshold is from 1 to the number of children
abbrev pub keeps_threshold : Plain → Bool
keeps_threshold (Par m children) = is_threshold m (count children)
keeps_threshold _ = true

-- a number of ticks
abbrev pub is_count : ℕ → Bool
is_count n = nat_le 1 n && nat_le n 1000

-- a number of ticks is from 1 to 1000, and a distance from 1 to 16
abbrev pub keeps_count : Plain → Bool
keeps_count (Tries n child) = is_count n
keeps_count (Ticks n child) = is_count n
keeps_count (Wait n) = is_count n
keeps_count (Does (Near n)) = nat_le 1 n && nat_le n 16
keeps_count _ = true

abbrev pub keeps_alone : Limit → Plain → Bool
keeps_alone Children p = keeps_child p
keeps_alone Thresholds p = keeps_threshold p
keeps_alone Counts p = keeps_count p

-- a node and all below it keep a limit
abbrev mutual
  pub keeps : Limit → Plain → Bool
  keeps limit (Composite kind children) = keeps_alone limit (Composite kind children) && all_keep limit children
  keeps limit (Star kind children) = keeps_alone limit (Star kind children) && all_keep limit children
  keeps limit (Par m children) = keeps_alone limit (Par m children) && all_keep limit children
  keeps limit (Not child) = keeps_alone limit (Not child) && keeps limit child
  keeps limit (Tries n child) = keeps_alone limit (Tries n child) && keeps limit child
  keeps limit (Ticks n child) = keeps_alone limit (Ticks n child) && keeps limit child
  keeps limit leaf = keeps_alone limit leaf

  pub all_keep : Limit → Forest → Bool
  all_keep limit none = true
  all_keep limit (tree child children) = keeps limit child && all_keep limit children

-- the first limit that the tree breaks, each looked for in the whole tree
abbrev pub tree_fault : Plain → Option TreeFault
tree_fault p =
    if nat_lt 255 (size p) then Some TooManyNodes
    else (if nat_lt 32 (depth p) then Some TooDeep
    else (if keeps Children p then
    (if keeps Thresholds p then
    (if keeps Counts p then None else Some Count)
    else Some Threshold)
    else Some NoChild))
