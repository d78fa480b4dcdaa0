-- What is read of the map of a handle's game.
use Rattle.std.specs.Prelude.{ℕ, ◌≡◌, ◌+◌, ◌*◌, true, false, List, length, map, Option, Some, None, IsSomeAnd}
use Rattle.std.specs.List.{range_with_len}
use Rattle.grid_world.specs.Grid.{Grid, Point, point_at, is_on_map, cell_at, has_item, agent_on}
use Rattle.grid_world.specs.World.{point}
use Rattle.grid_world.specs.declared.cell.Cell.{Cell}
use Rattle.grid_world.specs.declared.cell.Cell.TheVariants.{Wall, Floor, Door, Spot}
use Rattle.stepping.specs.Played.{Played}
use Rattle.btworld_c.specs.Buffers.{IsFilled, IsShort}
use Rattle.btworld_c.specs.declared.game.CellState.{CellState}

-- the world after the frame
abbrev pub world_of : Played → Grid
world_of p = p.position.world

-- the size of the held game's map, and how many agents it has
abbrev pub IsMap : Option Played → (width height agents : ℕ) → Type 0
IsMap None width height agents = ⊥
IsMap (Some p) width height agents =
    (width ≡ (world_of p).width) × (height ≡ (world_of p).height) × (agents ≡ length p.game.trees)

-- 35 `#`, 46 `.`, 97 `a`, 48 `0`: what a map has there where nothing is on it
abbrev pub mark_told : Cell → ℕ
mark_told Wall = 35
mark_told Floor = 46
mark_told (Door a) = 97 + a
mark_told (Spot p) = 48 + p

-- 255 where nobody is
abbrev pub number_told : Option ℕ → ℕ
number_told None = 255
number_told (Some number) = number

abbrev pub agent_number : Grid → Point → ℕ
agent_number w at = number_told (agent_on w at)

-- its mark on the map, whether an item lies there, and who stands there
abbrev pub cell_told : Grid → Point → CellState
cell_told w at = record { mark = mark_told (cell_at w at); item = has_item w at; agent = agent_number w at }

-- a cell of the held game after its frame
abbrev pub IsCell : Option Played → (x y : ℕ) → CellState → Type 0
IsCell None x y told = ⊥
IsCell (Some p) x y told = (is_on_map (world_of p) (point x y) ≡ true) × (told ≡ cell_told (world_of p) (point x y))

-- there is no such cell
abbrev pub IsOffMap : Option Played → (x y : ℕ) → Type 0
IsOffMap None x y = ⊥
IsOffMap (Some p) x y = is_on_map (world_of p) (point x y) ≡ false

-- ---- all cells

-- row after row
abbrev pub cells_told : Grid → List CellState
cells_told w = map (λ number. cell_told w (point_at w number)) (range_with_len 0 (w.width * w.height))

-- all cells of the held game after its frame stand at the start of a buffer, which is kept behind them
abbrev pub AreCells : Option Played → ℕ → (old new : List CellState) → Type 0
AreCells held size old new = IsSomeAnd held (λ p. IsFilled (cells_told (world_of p)) size old new)

-- they are so many, and more than fit in a buffer
abbrev pub AreTooManyCells : Option Played → ℕ → List CellState → Type 0
AreTooManyCells held size buffer = IsSomeAnd held (λ p. IsShort (cells_told (world_of p)) size buffer)
