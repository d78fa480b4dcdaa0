-- A map with a border of cells around it that are not open, so that each cell of the map has four neighbours.
-- Its cells are numbered from 0, row after row.
use Rattle.std.specs.Prelude.{ℕ, zero, suc, ◌≡◌, ◌+◌, ◌*◌, ◌/◌, ◌%◌, ◌<◌, Bool, false, List, length, map, slice_index_or}
use Rattle.grid_world.specs.declared.cell.Dir.{Dir}
use Rattle.grid_world.specs.declared.cell.Dir.TheVariants.{North, East, South, West}
use Rattle.grid_world.specs.Grid.{Grid, Point}
use Rattle.grid_world.specs.Map.{count_up}
use Rattle.grid_world.specs.Open.{is_open}

-- the cells of a row
abbrev pub stride_of : Grid → ℕ
stride_of g = g.width + 2

abbrev pub number_of : Grid → Point → ℕ
number_of g p = suc p.y * stride_of g + suc p.x

-- whether the cell in column x and row y, counted with the border, is an open cell of the map
abbrev pub is_open_inside : Grid → List Bool → ℕ → ℕ → Bool
is_open_inside g signals zero y = false
is_open_inside g signals (suc x) zero = false
is_open_inside g signals (suc x) (suc y) = is_open g signals (record { x = x; y = y })

-- the cells of row y of the map, from the left
abbrev pub open_row : Grid → List Bool → ℕ → List Bool
open_row g signals y = map (λ x. is_open g signals (record { x = x; y = y })) (count_up 0 g.width)

-- the first entries of the table of open cells
abbrev pub BeginsTable : Grid → List Bool → List Bool → Type 0
BeginsTable g signals table =
    (i : ℕ) → i < length table → slice_index_or table i false ≡ is_open_inside g signals (i % stride_of g) (i / stride_of g)

pub record IsTable (g : Grid) (signals : List Bool) (table : List Bool) : Type 0 where
  pub size : length table ≡ (g.height + 2) * stride_of g
  pub cells : BeginsTable g signals table

-- cell j is the next one from cell i in a direction, in rows of s cells
abbrev pub IsNext : ℕ → Dir → ℕ → ℕ → Type 0
IsNext s North i j = j + s ≡ i
IsNext s East i j = j ≡ i + 1
IsNext s South i j = j ≡ i + s
IsNext s West i j = j + 1 ≡ i
