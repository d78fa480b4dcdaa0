-- The names of the nodes of an agent's tree.
use Rattle.std.specs.Prelude.{ℕ, ◌<◌, ◌+◌, ◌++◌, List, [], length, codes, Option, IsSomeAnd, slice_index_or}
use Rattle.bt_nodes.specs.declared.leaf.Leaf.TheVariants.{Carrying}
use Rattle.bt_nodes.specs.Plain.{Plain, Composite, Star, Par, Not, Tries, Ticks, Wait, Move, Does, Forest, none, tree}
use Rattle.stepping.specs.Played.{Played}
use Rattle.tick_text.specs.Lines.{indent, node_text}
use Rattle.btworld_c.specs.Buffers.{IsFilled, IsShort}

-- a node without its children
abbrev pub name_line : Plain → (depth : ℕ) → List ℕ
name_line p depth = indent depth ++ node_text p ++ codes "\n"

-- in preorder
abbrev mutual
  pub name_lines : Plain → (depth : ℕ) → List ℕ
  name_lines (Composite kind children) depth = name_line (Composite kind children) depth ++ forest_names children (depth + 1)
  name_lines (Star kind children) depth = name_line (Star kind children) depth ++ forest_names children (depth + 1)
  name_lines (Par m children) depth = name_line (Par m children) depth ++ forest_names children (depth + 1)
  name_lines (Not child) depth = name_line (Not child) depth ++ name_lines child (depth + 1)
  name_lines (Tries k child) depth = name_line (Tries k child) depth ++ name_lines child (depth + 1)
  name_lines (Ticks k child) depth = name_line (Ticks k child) depth ++ name_lines child (depth + 1)
  name_lines (Wait k) depth = name_line (Wait k) depth
  name_lines (Move p) depth = name_line (Move p) depth
  name_lines (Does leaf) depth = name_line (Does leaf) depth

  pub forest_names : Forest → (depth : ℕ) → List ℕ
  forest_names none depth = []
  forest_names (tree child children) depth = name_lines child depth ++ forest_names children depth

-- those of an agent's tree
abbrev pub names_of : Played → (agent : ℕ) → List ℕ
names_of p agent = name_lines (slice_index_or p.game.trees agent (Does Carrying)) 0

-- the names of the nodes of an agent of the held game stand at the start of a buffer, which is kept behind them
abbrev pub AreNames : Option Played → (agent size : ℕ) → (old new : List ℕ) → Type 0
AreNames held agent size old new = IsSomeAnd held (λ p. (agent < length p.game.trees) × IsFilled (names_of p agent) size old new)

-- they are so long, and longer than a buffer
abbrev pub AreNamesTooLong : Option Played → (agent size : ℕ) → List ℕ → Type 0
AreNamesTooLong held agent size buffer = IsSomeAnd held (λ p. (agent < length p.game.trees) × IsShort (names_of p agent) size buffer)
