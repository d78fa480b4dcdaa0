use Rattle.std.proofs.Common.{◌≡◌, ℕ, ◌<◌, get_or, length, position, None}
use Rattle.grid_world.specs.Grid.{is_spot}
use Rattle.grid_world.proofs.ground.spots_in.Given as goal

abbrev pub invariant-places : goal.invariant-places
invariant-places l = (length l.spots ≡ 10) × ((p : ℕ) → p < l.number → get_or l.spots p None ≡ position (is_spot p) l.kinds)
