-- The text of rows: for each its glyphs, from the left, and a line feed.
use Rattle.std.specs.Prelude.{ℕ, ◌-◌, ◌<◌, ◌&&◌, nat_le, if◌then◌else◌, List, [], ◌∷◌, ◌++◌, Bool}
use Rattle.std.specs.List.{flat_map}
use Rattle.grid_world.specs.declared.cell.Cell.{Cell}
use Rattle.grid_world.specs.declared.cell.Cell.TheVariants.{Wall, Floor, Door, Spot}
use Rattle.grid_world.specs.Grid.{Grid}
use Rattle.grid_world.specs.Map.{count_up}
use Rattle.grid_world.specs.Open.{is_on}
use Rattle.grid_world.specs.World.{row_glyphs}

abbrev pub line : Grid → List Bool → ℕ → List ℕ
line g signals y = row_glyphs g signals y ++ 10 ∷ []

abbrev pub lines : Grid → List Bool → (first count : ℕ) → List ℕ
lines g signals first count = flat_map (line g signals) (count_up first count)

-- a character of the ground's text while all signals are off, as it is under these signals: a letter is a door
abbrev pub opened : List Bool → ℕ → ℕ
opened signals c = if nat_le 97 c && is_on signals (c - 97) then 47 else c

-- places are drawn as digits, which are no letters
abbrev pub IsPlaced : Cell → Type 0
IsPlaced Wall = Unit {0}
IsPlaced Floor = Unit {0}
IsPlaced (Door a) = Unit {0}
IsPlaced (Spot p) = p < 10
