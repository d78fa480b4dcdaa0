-- What a level stands for.
use Rattle.std.specs.Prelude.{ℕ, List, map, find, option_map, unwrap_or}
use Rattle.bt_nodes.specs.declared.leaf.Leaf.TheVariants.{Carrying}
use Rattle.bt_nodes.specs.Plain.{Plain, Does}
use Rattle.game_session.specs.Parts.{Parts, NamedPlain}
use Rattle.game_session.specs.Faults.{is_named}
use Rattle.game_session.specs.Kept.{kept}
use Rattle.game_session.specs.declared.level.Level.{Level}

-- a level without where it lies in memory
abbrev pub value_of : Level → Parts
value_of level = kept level.rows.items level.names.items level.trees.items

-- the tree of a name; in a level there is one for each agent's name
abbrev pub tree_named : List NamedPlain → List ℕ → Plain
tree_named trees name = unwrap_or (option_map (λ t. t.tree) (find (is_named name) trees)) (Does Carrying)

-- the tree of each agent
abbrev pub agent_trees : Parts → List Plain
agent_trees parts = map (tree_named parts.trees) parts.names
