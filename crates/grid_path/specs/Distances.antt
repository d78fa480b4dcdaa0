-- How many steps lead to a goal, for each cell.
use Rattle.std.specs.Prelude.{ℕ, zero, suc, ◌≡◌, ◌≢◌, ◌<◌, ◌≤◌, ◌⊎◌, Bool, true, false, List, length, Some, slice_index}
use Rattle.grid_world.specs.declared.cell.Dir.{Dir}
use Rattle.grid_world.specs.declared.cell.Dir.TheVariants.{North, East, South, West}
use Rattle.grid_world.specs.Grid.{Grid, Point, place_of}
use Rattle.grid_path.specs.Bordered.{IsTable, stride_of, number_of}
use Rattle.grid_path.specs.Levels.{at, Reaches, Level}
use Rattle.grid_path.specs.declared.marks.Marks.{Marks}

-- a cell's mark: one more than the least number of steps of a walk from it; 0 where the cell is not open, or there is none
abbrev pub IsMark : (ℕ → Bool) → (s goal i : ℕ) → ℕ → Type 0
IsMark open_at s goal i zero = open_at i ≡ true → (n : ℕ) → Reaches open_at s goal n i → ⊥
IsMark open_at s goal i (suc n) = (open_at i ≡ true) × Reaches open_at s goal n i × ((m : ℕ) → Reaches open_at s goal m i → n ≤ m)

abbrev pub IsMeasured : (ℕ → Bool) → (s goal : ℕ) → (ℕ → ℕ) → Type 0
IsMeasured open_at s goal mark = (i : ℕ) → IsMark open_at s goal i (mark i)

-- the marks of all cells of a map, with a border around it, for a place that is there
pub record AreDistances (g : Grid) (on : List Bool) (place : ℕ) (marks : List ℕ) : Type 0 where
  pub goal : Point
  pub goal_is : place_of g place ≡ Some goal
  pub table : List Bool
  pub table_is : IsTable g on table
  pub long : length marks ≡ length table
  pub measured : IsMeasured (at table) (stride_of g) (number_of g goal) (slice_index marks)

-- the same while the cells in the queue from head on are not marked yet
abbrev pub IsSoFar : (ℕ → Bool) → (s goal : ℕ) → (ℕ → Bool) → (ℕ → ℕ) → (head met i : ℕ) → ℕ → Type 0
IsSoFar open_at s goal unmet queue head met i zero =
    open_at i ≡ true → (unmet i ≡ true) ⊎ ((l : ℕ) × (head ≤ l) × (l < met) × (queue l ≡ i))
IsSoFar open_at s goal unmet queue head met i (suc n) =
    (open_at i ≡ true) × (unmet i ≡ false) × Reaches open_at s goal n i × ((m : ℕ) → Reaches open_at s goal m i → n ≤ m)

pub record Measuring (open_at : ℕ → Bool) (s goal : ℕ) (unmet : ℕ → Bool) (queue mark : ℕ → ℕ) (head met k : ℕ) : Type 0 where
  pub level : Level open_at s goal unmet queue head met k
  pub fresh : (l n : ℕ) → head ≤ l → l < met → Reaches open_at s goal n (queue l) → k ≤ n
  pub unmarked : (l : ℕ) → head ≤ l → l < met → mark (queue l) ≡ 0
  pub so_far : (i : ℕ) → IsSoFar open_at s goal unmet queue head met i (mark i)

abbrev pub mark_in : Marks → Dir → ℕ
mark_in m North = m.north
mark_in m East = m.east
mark_in m South = m.south
mark_in m West = m.west

-- the least of the marks that are not 0, or 0 where all are
pub record IsLeast (mark : Dir → ℕ) (least : ℕ) : Type 0 where
  pub none : least ≡ 0 → (d : Dir) → mark d ≡ 0
  pub some : least ≢ 0 → (d : Dir) × (mark d ≡ least)
  pub low : (d : Dir) → mark d ≢ 0 → least ≤ mark d
