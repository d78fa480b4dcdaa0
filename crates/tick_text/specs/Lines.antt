-- What is told of an agent's tick, node by node.
use Rattle.std.specs.Prelude.{ℕ, zero, suc, ◌+◌, ◌==◌, ◌++◌, if◌then◌else◌, List, [], codes, decimal, Option, Some, None, slice_index_or}
use Rattle.serde_json.specs.Data.{Data, number, unsigned, string}
use Rattle.grid_world.specs.declared.cell.Answer.{Answer}
use Rattle.grid_world.specs.declared.cell.Answer.TheVariants.{Here, NoWay, Step}
use Rattle.grid_world.specs.declared.cell.Dir.{Dir}
use Rattle.grid_world.specs.declared.cell.Dir.TheVariants.{North, East, South, West}
use Rattle.grid_world.specs.Way.{way}
use Rattle.bt_nodes.specs.declared.node.Status.{Status}
use Rattle.bt_nodes.specs.Plain.{Plain, Composite, Star, Par, Not, Tries, Ticks, Wait, Move, Does, Forest, none, tree}
use Rattle.bt_nodes.specs.Sizes.{size}
use Rattle.game_rules.specs.Text.{status_letter}
use Rattle.game_rules.specs.View.{View, cell_of}
use Rattle.level_text.specs.Begun.{head, own}

-- what an agent saw, what each node of its tree answered then, and the tree's memory before and after
pub record Tick : Type 0 where
  pub view : View
  pub answers : List (Option Status)
  pub before : List ℕ
  pub after : List ℕ

-- ---- nodes

-- a node that was not ticked has a dot
abbrev pub answer_mark : Option Status → List ℕ
answer_mark None = codes "."
answer_mark (Some status) = status_letter status

-- two spaces for each level
abbrev pub indent : ℕ → List ℕ
indent zero = []
indent (suc depth) = codes "  " ++ indent depth

abbrev pub argument_text : Option Data → List ℕ
argument_text (Some (number (unsigned n))) = codes " " ++ decimal n
argument_text (Some (string s)) = codes " " ++ s
argument_text _ = []

-- a node without its children, as level files name it
abbrev pub node_text : Plain → List ℕ
node_text p = head p ++ argument_text (own p)

abbrev pub dir_word : Dir → List ℕ
dir_word North = codes "north"
dir_word East = codes "east"
dir_word South = codes "south"
dir_word West = codes "west"

abbrev pub way_text : Answer → List ℕ
way_text Here = codes ": here"
way_text NoWay = codes ": no way"
way_text (Step d n) = codes ": " ++ dir_word d ++ codes ", " ++ decimal n

-- the way that a move got, which asks once it is ticked
abbrev pub way_note : View → Plain → Option Status → List ℕ
way_note v (Move p) (Some status) = way_text (way v.world v.signals (cell_of v) p)
way_note v p answer = []

-- a number that the tick has changed
abbrev pub number_note : (before after : ℕ) → List ℕ
number_note before after = if before == after then [] else codes ": " ++ decimal before ++ codes " to " ++ decimal after

module _ (t : Tick) where
  abbrev pub node_line : Plain → (n depth : ℕ) → List ℕ
  node_line p n depth =
      answer_mark (slice_index_or t.answers n None) ++ codes " " ++ decimal n ++ codes " " ++ indent depth ++ node_text p
      ++ way_note t.view p (slice_index_or t.answers n None) ++ number_note (slice_index_or t.before n 0) (slice_index_or t.after n 0) ++ codes "\n"

  -- in preorder
  abbrev mutual
    pub node_lines : Plain → (n depth : ℕ) → List ℕ
    node_lines (Composite kind children) n depth = node_line (Composite kind children) n depth ++ forest_lines children (n + 1) (depth + 1)
    node_lines (Star kind children) n depth = node_line (Star kind children) n depth ++ forest_lines children (n + 1) (depth + 1)
    node_lines (Par m children) n depth = node_line (Par m children) n depth ++ forest_lines children (n + 1) (depth + 1)
    node_lines (Not child) n depth = node_line (Not child) n depth ++ node_lines child (n + 1) (depth + 1)
    node_lines (Tries k child) n depth = node_line (Tries k child) n depth ++ node_lines child (n + 1) (depth + 1)
    node_lines (Ticks k child) n depth = node_line (Ticks k child) n depth ++ node_lines child (n + 1) (depth + 1)
    node_lines (Wait k) n depth = node_line (Wait k) n depth
    node_lines (Move p) n depth = node_line (Move p) n depth
    node_lines (Does leaf) n depth = node_line (Does leaf) n depth

    pub forest_lines : Forest → (n depth : ℕ) → List ℕ
    forest_lines none n depth = []
    forest_lines (tree child children) n depth = node_lines child n depth ++ forest_lines children (n + size child) depth
