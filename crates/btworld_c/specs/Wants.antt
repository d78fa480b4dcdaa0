-- What the nodes of a tree want in a tick, where they are Running.
use Rattle.std.specs.Prelude.{ℕ, List, [], ◌∷◌, ◌++◌, slice_index_or}
use Rattle.grid_world.specs.declared.cell.Answer.{Answer}
use Rattle.grid_world.specs.declared.cell.Answer.TheVariants.{Here, NoWay, Step}
use Rattle.grid_world.specs.declared.cell.Intent.{Intent}
use Rattle.grid_world.specs.declared.cell.Intent.TheVariants as intent
use Rattle.grid_world.specs.Way.{way}
use Rattle.bt_nodes.specs.declared.leaf.Leaf.TheVariants.{Carrying}
use Rattle.bt_nodes.specs.Plain.{Plain, Composite, Star, Par, Not, Tries, Ticks, Wait, Move, Does, Forest, none, tree}
use Rattle.game_rules.specs.declared.leaf_result.LeafResult.{LeafResult}
use Rattle.game_rules.specs.declared.leaf_result.LeafResult.TheVariants.{Says, Wants}
use Rattle.game_rules.specs.View.{View, cell_of}
use Rattle.game_rules.specs.Tick.{meaning}

-- a node and those below it, in preorder
abbrev mutual
  pub nodes_of : Plain → List Plain
  nodes_of (Composite kind children) = Composite kind children ∷ nodes_in children
  nodes_of (Star kind children) = Star kind children ∷ nodes_in children
  nodes_of (Par m children) = Par m children ∷ nodes_in children
  nodes_of (Not child) = Not child ∷ nodes_of child
  nodes_of (Tries k child) = Tries k child ∷ nodes_of child
  nodes_of (Ticks k child) = Ticks k child ∷ nodes_of child
  nodes_of (Wait k) = Wait k ∷ []
  nodes_of (Move p) = Move p ∷ []
  nodes_of (Does leaf) = Does leaf ∷ []

  pub nodes_in : Forest → List Plain
  nodes_in none = []
  nodes_in (tree child children) = nodes_of child ++ nodes_in children

-- that of a number; a number behind the last has none, and a condition in its place wants nothing
abbrev pub node_at : Plain → ℕ → Plain
node_at p number = slice_index_or (nodes_of p) number (Does Carrying)

abbrev pub step_wanted : Answer → Intent
step_wanted Here = intent.Stay
step_wanted NoWay = intent.Stay
step_wanted (Step d n) = intent.Move d

abbrev pub result_wanted : LeafResult → Intent
result_wanted (Says b) = intent.Stay
result_wanted (Wants i) = i

-- what a node wants by what its agent sees: a move the first step of the way to its place, a leaf what it comes to
abbrev pub want_of : View → Plain → Intent
want_of v (Move p) = step_wanted (way v.world v.signals (cell_of v) p)
want_of v (Does leaf) = result_wanted (meaning leaf v)
want_of v p = intent.Stay
