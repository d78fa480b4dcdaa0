-- Trees whose places are digits and whose signals and agents are letters, as those of nodes are.
use Rattle.std.specs.Prelude.{nat_lt, Bool, true, ◌&&◌, option_map, unwrap_or}
use Rattle.bt_nodes.specs.declared.leaf.Leaf.{Leaf}
use Rattle.bt_nodes.specs.Plain.{Plain, Composite, Star, Par, Not, Tries, Ticks, Wait, Move, Does, Forest, none, tree}
use Rattle.level_text.specs.Arguments.{has_mark}
use Rattle.level_text.specs.Leaves.{leaf_argument}

abbrev pub leaf_has_marks : Leaf → Bool
leaf_has_marks leaf = unwrap_or (option_map has_mark (leaf_argument leaf)) true

abbrev mutual
  pub has_marks : Plain → Bool
  has_marks (Composite kind children) = all_have_marks children
  has_marks (Star kind children) = all_have_marks children
  has_marks (Par m children) = all_have_marks children
  has_marks (Not child) = has_marks child
  has_marks (Tries n child) = has_marks child
  has_marks (Ticks n child) = has_marks child
  has_marks (Wait n) = true
  has_marks (Move p) = nat_lt p 10
  has_marks (Does leaf) = leaf_has_marks leaf

  pub all_have_marks : Forest → Bool
  all_have_marks none = true
  all_have_marks (tree child children) = has_marks child && all_have_marks children
