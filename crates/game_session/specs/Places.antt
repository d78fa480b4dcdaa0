-- The places that a tree names.
use Rattle.std.specs.Prelude.{ℕ, List, [], ◌∷◌, ◌++◌, Bool, is_some}
use Rattle.grid_world.specs.Grid.{Grid, place_of}
use Rattle.bt_nodes.specs.declared.leaf.Leaf.{Leaf}
use Rattle.bt_nodes.specs.declared.leaf.Leaf.TheVariants.{At}
use Rattle.bt_nodes.specs.Plain.{Plain, Composite, Star, Par, Not, Tries, Ticks, Wait, Move, Does, Forest, none, tree}

abbrev pub leaf_places : Leaf → List ℕ
leaf_places (At p) = p ∷ []
leaf_places _ = []

abbrev mutual
  pub places : Plain → List ℕ
  places (Composite kind children) = places_in children
  places (Star kind children) = places_in children
  places (Par m children) = places_in children
  places (Not child) = places child
  places (Tries n child) = places child
  places (Ticks n child) = places child
  places (Wait n) = []
  places (Move p) = p ∷ []
  places (Does leaf) = leaf_places leaf

  pub places_in : Forest → List ℕ
  places_in none = []
  places_in (tree child children) = places child ++ places_in children

-- whether a place is on the map
abbrev pub has_place : Grid → ℕ → Bool
has_place g p = is_some (place_of g p)
