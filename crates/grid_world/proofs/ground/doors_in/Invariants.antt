use Rattle.std.proofs.Common.{◌≡◌, ℕ, ◌<◌, true, get_or, length}
use Rattle.std.specs.Prelude.{All, Contains}
use Rattle.grid_world.specs.declared.cell.Cell.TheVariants.{Wall}
use Rattle.grid_world.specs.Ground.{is_door}
use Rattle.grid_world.proofs.ground.doors_in.Given as goal

abbrev pub invariant-cells : goal.invariant-cells
invariant-cells l = record {
  all : (k : ℕ) → k < l.i → is_door (get_or l.kinds k Wall) ≡ true → Contains l.doors.items k;
  within : All (λ k. k < length l.kinds) l.doors.items;
}
