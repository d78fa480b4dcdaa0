-- The digest of what is played: a level, without the names in it and the trees that no agent has; and a script.
use Rattle.std.specs.Prelude.{ℕ, List, [], ◌∷◌, ◌++◌, length, unwrap_or}
use Rattle.std.specs.List.{flat_map}
use Rattle.grid_world.specs.declared.cell.Cell.{Cell}
use Rattle.grid_world.specs.declared.cell.Cell.TheVariants.{Wall, Floor, Door, Spot}
use Rattle.bt_nodes.specs.Plain.{Plain, Composite, Star, Par, Not, Tries, Ticks, Wait, Move, Does, Forest, none, tree}
use Rattle.bt_nodes.specs.Sizes.{count}
use Rattle.bt_nodes.specs.Heads.{code_of, number_of}
use Rattle.game_rules.specs.declared.change.Change.{Change}
use Rattle.game_rules.specs.Game.{Game}
use Rattle.stepping.specs.Digest.{fnv_all, bytes, bit, agent_bytes, item_bytes}

abbrev pub cell_bytes : Cell → List ℕ
cell_bytes Wall = 0 ∷ 0 ∷ []
cell_bytes Floor = 1 ∷ 0 ∷ []
cell_bytes (Door a) = 2 ∷ a ∷ []
cell_bytes (Spot p) = 3 ∷ p ∷ []

-- ---- trees

-- a node alone: its kind, the number that stands in it, or 0, and how many children it has
abbrev pub node_bytes : Plain → ℕ → List ℕ
node_bytes p children = code_of p ∷ bytes 2 (unwrap_or (number_of p) 0) ++ bytes 1 children

-- the nodes in preorder
abbrev mutual
  pub tree_bytes : Plain → List ℕ
  tree_bytes (Composite kind children) = node_bytes (Composite kind children) (count children) ++ forest_bytes children
  tree_bytes (Star kind children) = node_bytes (Star kind children) (count children) ++ forest_bytes children
  tree_bytes (Par m children) = node_bytes (Par m children) (count children) ++ forest_bytes children
  tree_bytes (Not child) = node_bytes (Not child) 1 ++ tree_bytes child
  tree_bytes (Tries n child) = node_bytes (Tries n child) 1 ++ tree_bytes child
  tree_bytes (Ticks n child) = node_bytes (Ticks n child) 1 ++ tree_bytes child
  tree_bytes (Wait n) = node_bytes (Wait n) 0
  tree_bytes (Move p) = node_bytes (Move p) 0
  tree_bytes (Does leaf) = node_bytes (Does leaf) 0

  pub forest_bytes : Forest → List ℕ
  forest_bytes none = []
  forest_bytes (tree child children) = tree_bytes child ++ forest_bytes children

-- ---- levels and scripts

-- the map's size and cells, the agents, the items, and the tree of each agent
abbrev pub level_bytes : Game → List ℕ
level_bytes g =
    bytes 2 g.world.width ++ bytes 2 g.world.height ++ flat_map cell_bytes g.world.cells
    ++ bytes 2 (length g.world.agents) ++ flat_map agent_bytes g.world.agents ++ item_bytes 0 g.world.items ++ flat_map tree_bytes g.trees

abbrev pub level_digest_of : Game → ℕ
level_digest_of g = fnv_all 14695981039346656037 (level_bytes g)

abbrev pub change_bytes : Change → List ℕ
change_bytes c = bytes 4 c.frame ++ c.signal ∷ bit c.on ∷ []

abbrev pub script_digest_of : List Change → ℕ
script_digest_of changes = fnv_all 14695981039346656037 (flat_map change_bytes changes)
