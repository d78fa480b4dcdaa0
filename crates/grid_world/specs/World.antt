-- What every world keeps.
use Rattle.std.specs.Prelude.{ℕ, ◌≡◌, ◌≢◌, ◌*◌, ◌<◌, ◌≤◌, true, false, List, Bool, All, AllPairs, length, map}
use Rattle.grid_world.specs.declared.cell.Agent.{Agent}
use Rattle.grid_world.specs.declared.cell.Cell.TheVariants.{Wall}
use Rattle.grid_world.specs.Grid.{Grid, Point, cell_at, has_item, point_of, same_point}
use Rattle.grid_world.specs.Glyphs.{glyph}
use Rattle.grid_world.specs.Map.{count_up}

abbrev pub point : ℕ → ℕ → Point
point x y = record { x = x; y = y }

-- from 1 to 128 columns and rows, and a cell for each point
pub record IsSized (g : Grid) : Type 0 where
  pub some_columns : 1 ≤ g.width
  pub most_columns : g.width ≤ 128
  pub some_rows : 1 ≤ g.height
  pub most_rows : g.height ≤ 128
  pub all_cells : length g.cells ≡ g.width * g.height

-- an agent stands on the map, and on no wall
pub record IsStanding (g : Grid) (agent : Agent) : Type 0 where
  pub column : agent.x < g.width
  pub row : agent.y < g.height
  pub no_wall : cell_at g (point_of agent) ≢ Wall

-- no two agents stand on one cell
abbrev pub AreApart : List Agent → Type 0
AreApart agents = AllPairs (λ a b. same_point (point_of a) (point_of b) ≡ false) agents

pub record IsWorld (g : Grid) : Type 0 where
  pub sized : IsSized g
  pub all_items : length g.items ≡ g.width * g.height
  pub few_agents : length g.agents ≤ 26
  pub standing : All (IsStanding g) g.agents
  pub apart : AreApart g.agents
  pub items_off_walls : (p : Point) → has_item g p ≡ true → cell_at g p ≢ Wall

-- the glyphs of row y from the left
abbrev pub row_glyphs : Grid → List Bool → ℕ → List ℕ
row_glyphs g signals y = map (λ x. glyph g signals (record { x = x; y = y })) (count_up 0 g.width)
