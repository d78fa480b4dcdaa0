-- The agents that a tree names.
use Rattle.std.specs.Prelude.{ℕ, List, [], ◌∷◌, ◌++◌, Bool, nat_lt, length}
use Rattle.grid_world.specs.Grid.{Grid}
use Rattle.bt_nodes.specs.declared.leaf.Leaf.{Leaf}
use Rattle.bt_nodes.specs.declared.leaf.Leaf.TheVariants.{Give}
use Rattle.bt_nodes.specs.Plain.{Plain, Composite, Star, Par, Not, Tries, Ticks, Wait, Move, Does, Forest, none, tree}

abbrev pub leaf_agents : Leaf → List ℕ
leaf_agents (Give b) = b ∷ []
leaf_agents _ = []

abbrev mutual
  pub agents : Plain → List ℕ
  agents (Composite kind children) = agents_in children
  agents (Star kind children) = agents_in children
  agents (Par m children) = agents_in children
  agents (Not child) = agents child
  agents (Tries n child) = agents child
  agents (Ticks n child) = agents child
  agents (Wait n) = []
  agents (Move p) = []
  agents (Does leaf) = leaf_agents leaf

  pub agents_in : Forest → List ℕ
  agents_in none = []
  agents_in (tree child children) = agents child ++ agents_in children

-- whether an agent is on the map
abbrev pub has_agent : Grid → ℕ → Bool
has_agent g b = nat_lt b (length g.agents)
