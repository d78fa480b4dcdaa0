-- How a world is kept: its ground, which never changes, its items and its agents.
use Rattle.std.specs.Prelude.{ℕ, ◌≡◌, ◌≢◌, ◌<◌, Bool, true, false, List, [], All, Contains, length, map, replicate, position, Option, None, slice_index_or}
use Rattle.grid_world.specs.declared.cell.Agent.{Agent}
use Rattle.grid_world.specs.declared.cell.Cell.{Cell}
use Rattle.grid_world.specs.declared.cell.Cell.TheVariants.{Wall, Floor, Door, Spot}
use Rattle.grid_world.specs.Grid.{Grid, is_spot}
use Rattle.grid_world.specs.Open.{is_passable}
use Rattle.grid_world.specs.Rows.{IsPlaced, lines}
use Rattle.grid_world.specs.World.{IsSized}

-- a ground with nothing on it
abbrev pub bare : ℕ → ℕ → List Cell → Grid
bare width height cells = record { width = width; height = height; cells = cells; items = []; agents = [] }

-- a world without its items and agents
abbrev pub emptied : Grid → Grid
emptied g = bare g.width g.height g.cells

-- the table has the number of each place's cell
abbrev pub ListsSpots : List (Option ℕ) → Grid → Type 0
ListsSpots table g = (p : ℕ) → p < 10 → slice_index_or table p None ≡ position (is_spot p) g.cells

abbrev pub no_signals : List Bool
no_signals = replicate 26 false

abbrev pub is_door : Cell → Bool
is_door Wall = false
is_door Floor = false
is_door (Door a) = true
is_door (Spot p) = false

-- each cell with a door is listed, and only cells are
pub record ListsDoors (doors : List ℕ) (cells : List Cell) : Type 0 where
  pub all : (i : ℕ) → i < length cells → is_door (slice_index_or cells i Wall) ≡ true → Contains doors i
  pub within : All (λ i. i < length cells) doors

-- a ground with its tables
pub record IsGround (g : Grid) (floor : List Bool) (doors : List ℕ) (spots : List (Option ℕ)) (text : List ℕ) : Type 0 where
  pub sized : IsSized g
  pub placed : All IsPlaced g.cells
  pub passable : floor ≡ map (is_passable no_signals) g.cells
  pub doored : ListsDoors doors g.cells
  pub listing : ListsSpots spots g
  pub drawn : text ≡ lines g no_signals 0 g.height

-- a ground with items, told for each cell, and with agents
abbrev pub furnished : Grid → List Bool → List Agent → Grid
furnished g items agents =
    record { width = g.width; height = g.height; cells = g.cells; items = items; agents = agents }

-- no item, told for each cell, lies in a wall
abbrev pub AreOffWalls : List Cell → List Bool → Type 0
AreOffWalls cells items = (i : ℕ) → slice_index_or items i false ≡ true → slice_index_or cells i Wall ≢ Wall
