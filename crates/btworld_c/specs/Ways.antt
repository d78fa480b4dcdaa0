-- What is told of a way of an agent of a handle's game.
use Rattle.std.specs.Prelude.{ℕ, ◌≡◌, ◌<◌, ◌≤◌, ◌⊎◌, true, false, length, Option, is_some, IsSomeAnd}
use Rattle.grid_world.specs.Grid.{place_of}
use Rattle.grid_world.specs.Way.{order}
use Rattle.grid_world.specs.declared.cell.Answer.{Answer}
use Rattle.grid_world.specs.declared.cell.Answer.TheVariants.{Here, NoWay, Step}
use Rattle.stepping.specs.Played.{Played, way_under, bits}
use Rattle.btworld_c.specs.Maps.{world_of}
use Rattle.btworld_c.specs.declared.game.Way.{Way}

-- 0 north, 1 east, 2 south, 3 west; 4 where no step is wanted, 5 where no walk leads there
abbrev pub way_told : Answer → Way
way_told Here = record { steps = 0; direction = 4 }
way_told NoWay = record { steps = 0; direction = 5 }
way_told (Step d n) = record { steps = n; direction = order d }

-- the way of an agent of the held game to a place that its map has, in the next frame with the signals of a mask
abbrev pub IsWay : Option Played → (mask agent place : ℕ) → Way → Type 0
IsWay held mask agent place told =
    IsSomeAnd held (λ p. (agent < length p.game.trees) × (is_some (place_of (world_of p) place) ≡ true) × (told ≡ way_told (way_under p (bits 26 mask) agent place)))

-- no place has this number, or the map doesn't have it
abbrev pub IsNoPlace : Option Played → ℕ → Type 0
IsNoPlace held place = IsSomeAnd held (λ p. (10 ≤ place) ⊎ (is_some (place_of (world_of p) place) ≡ false))
