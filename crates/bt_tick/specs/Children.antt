-- The children of a node, and their numbers.
use Rattle.std.specs.Prelude.{ℕ, zero, suc, ◌+◌}
use Rattle.bt_nodes.specs.Plain.{Plain, Composite, Star, Par, Not, Tries, Ticks, Wait, Move, Does, Forest, none, tree}
use Rattle.bt_nodes.specs.Sizes.{size}

abbrev pub children_of : Plain → Forest
children_of (Composite kind children) = children
children_of (Star kind children) = children
children_of (Par m children) = children
children_of (Not child) = tree child none
children_of (Tries n child) = tree child none
children_of (Ticks n child) = tree child none
children_of (Wait n) = none
children_of (Move p) = none
children_of (Does leaf) = none

-- the children from child k on
abbrev pub from_child : ℕ → Forest → Forest
from_child zero cs = cs
from_child (suc k) none = none
from_child (suc k) (tree c cs) = from_child k cs

-- the number of child k, where the first child has the number at; behind the last child, the number after all of them
abbrev pub child_number : ℕ → Forest → ℕ → ℕ
child_number zero cs at = at
child_number (suc k) none at = at
child_number (suc k) (tree c cs) at = child_number k cs (at + size c)
