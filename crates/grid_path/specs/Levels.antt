-- Breadth-first search from a goal, level by level, over cells by number: level k has the open cells with k steps to the goal.
--
-- `open_at` tells the open cells, and `unmet` those of them that the search has not met yet; `queue` has the cells in
-- the order in which they were met.
use Rattle.std.specs.Prelude.{ℕ, zero, suc, ◌≡◌, ◌+◌, ◌<◌, ◌≤◌, ◌⊎◌, Bool, true, false, List, slice_index_or}
use Rattle.grid_world.specs.declared.cell.Dir.{Dir}
use Rattle.grid_world.specs.declared.cell.Answer.{Answer}
use Rattle.grid_world.specs.declared.cell.Answer.TheVariants.{Here, NoWay, Step}
use Rattle.grid_world.specs.Way.{order}
use Rattle.grid_path.specs.Bordered.{IsNext}

abbrev pub at : List Bool → ℕ → Bool
at cells i = slice_index_or cells i false

-- a walk of n steps over open cells goes from cell i to the goal
abbrev pub Reaches : (ℕ → Bool) → (s goal : ℕ) → ℕ → ℕ → Type 0
Reaches open_at s goal zero i = i ≡ goal
Reaches open_at s goal (suc n) i = (d : Dir) × (j : ℕ) × IsNext s d i j × (open_at j ≡ true) × Reaches open_at s goal n j

-- cell i is next to a cell that stands in the queue at head or behind it, before end
abbrev pub IsBeside : (s : ℕ) → (ℕ → ℕ) → (head end : ℕ) → ℕ → Type 0
IsBeside s queue head end i = (l : ℕ) × (head ≤ l) × (l < end) × (d : Dir) × IsNext s d i (queue l)

-- those cells of which P tells are met, each that was unmet is queued, and all else stays
pub record Meets (P : ℕ → Type 0) (unmet unmet' : ℕ → Bool) (queue queue' : ℕ → ℕ) (met met' : ℕ) : Type 0 where
  pub grows : met ≤ met'
  pub keeps : (l : ℕ) → l < met → queue' l ≡ queue l
  pub falls : (i : ℕ) → unmet i ≡ false → unmet' i ≡ false
  pub all : (i : ℕ) → P i → unmet' i ≡ false
  pub only : (i : ℕ) → unmet i ≡ true → unmet' i ≡ false → P i × ((l : ℕ) × (met ≤ l) × (l < met') × (queue' l ≡ i))
  pub queued : (l : ℕ) → met ≤ l → l < met' → P (queue' l) × (unmet (queue' l) ≡ true)

-- a met cell of a level before level k, with no unmet neighbour
pub record IsPassed (open_at : ℕ → Bool) (s goal : ℕ) (unmet : ℕ → Bool) (k i : ℕ) : Type 0 where
  pub walk : (n : ℕ) × (n < k) × Reaches open_at s goal n i
  pub closed : (d : Dir) (j : ℕ) → IsNext s d j i → open_at j ≡ true → unmet j ≡ false

-- the cells of level k stand in the queue from head on, before met; what else is met is of a level before
pub record Level (open_at : ℕ → Bool) (s goal : ℕ) (unmet : ℕ → Bool) (queue : ℕ → ℕ) (head met k : ℕ) : Type 0 where
  pub within : head ≤ met
  pub open_only : (i : ℕ) → unmet i ≡ true → open_at i ≡ true
  pub lower : (i n : ℕ) → open_at i ≡ true → n ≤ k → Reaches open_at s goal n i → unmet i ≡ false
  pub level : (l : ℕ) → head ≤ l → l < met → (open_at (queue l) ≡ true) × Reaches open_at s goal k (queue l)
  pub rest : (i : ℕ) → open_at i ≡ true → unmet i ≡ false
      → ((l : ℕ) × (head ≤ l) × (l < met) × (queue l ≡ i)) ⊎ IsPassed open_at s goal unmet k i

-- the next cell in a direction is open, and n steps lead from there to the goal
abbrev pub Nears : (ℕ → Bool) → (s goal from : ℕ) → ℕ → Dir → Type 0
Nears open_at s goal from n d = (j : ℕ) × IsNext s d from j × (open_at j ≡ true) × Reaches open_at s goal n j

-- the first direction on a shortest walk from a cell that is not the goal
pub record IsFirst (open_at : ℕ → Bool) (s goal from n : ℕ) (d : Dir) : Type 0 where
  pub nears : Nears open_at s goal from n d
  pub first : (e : Dir) → order e < order d → Nears open_at s goal from n e → ⊥
  pub least : (e : Dir) (m : ℕ) → Nears open_at s goal from m e → n ≤ m

abbrev pub IsFound : (ℕ → Bool) → (s goal from : ℕ) → Answer → Type 0
IsFound open_at s goal from Here = ⊥
IsFound open_at s goal from NoWay = (d : Dir) (n : ℕ) → Nears open_at s goal from n d → ⊥
IsFound open_at s goal from (Step d n) = (k : ℕ) × (n ≡ k + 1) × IsFirst open_at s goal from k d
