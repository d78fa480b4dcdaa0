-- A place is an open cell of the map.
use Rattle.std.proofs.Common.{div-lt_iff_lt-mul, ◌≡◌, ℕ, Bool, true, false, List, get_or, refl, ap, ◌∙◌, arith}
use Rattle.std.specs.Prelude.{Option, Some, None, option_map, position}
use Rattle.std.proofs.lemmas.Bool.{both_ways, and_from, lt-ltb}
use Rattle.std.proofs.lemmas.Nat.{div-add-mod'}
use Rattle.std.proofs.lemmas.List.Quantifiers.{position-Some}
use Rattle.grid_world.specs.declared.cell.Cell.{Cell}
use Rattle.grid_world.specs.declared.cell.Cell.TheVariants.{Wall, Floor, Door, Spot}
use Rattle.grid_world.specs.Grid.{Grid, Point, is_on_map, is_spot, index_of, point_at, cell_at, place_of}
use Rattle.grid_world.specs.Open.{is_open, is_passable}
use Rattle.grid_world.specs.World.{IsSized}
use Rattle.grid_world.proofs.Reaching.{some_is}
use Rattle.grid_path.proofs.Cells.{IsIn}

pub on_map : (g : Grid) (p : Point) → IsIn g p → is_on_map g p ≡ true
on_map g p there = and_from _ _ (lt-ltb p.x g.width there.column) (lt-ltb p.y g.height there.row)

passable_spot : (p : ℕ) (on : List Bool) (cell : Cell) → is_spot p cell ≡ true → is_passable on cell ≡ true
passable_spot p on Wall e = absurd (both_ways false refl e)
passable_spot p on Floor e = refl
passable_spot p on (Door a) e = absurd (both_ways false refl e)
passable_spot p on (Spot q) e = refl

pub record IsOpenIn (g : Grid) (on : List Bool) (b : Point) : Type 0 where
  pub inside : IsIn g b
  pub free : is_open g on b ≡ true

pub place_open : (g : Grid) (on : List Bool) (p : ℕ) (b : Point) → IsSized g → place_of g p ≡ Some b → IsOpenIn g on b
place_open g on p b sized e = from (position (is_spot p) g.cells) refl e
  where
    at_index : (i : ℕ) → position (is_spot p) g.cells ≡ Some i → point_at g i ≡ b → IsOpenIn g on b
    at_index i found same = rw (← same) (there i found)
      where
        there : (i : ℕ) → position (is_spot p) g.cells ≡ Some i → IsOpenIn g on (point_at g i)
        there i found =
            let spot = position-Some (is_spot p) g.cells i Wall found in
            let low = spot.0 in
            let columns = sized.some_columns in
            let all = sized.all_cells in
            let index : index_of g (point_at g i) ≡ i = div-add-mod' i g.width in
            let inside : IsIn g (point_at g i) = record { column = omega (arith, columns); row = (div-lt_iff_lt-mul columns).1 (omega (arith, low, all)) } in
            record {
              inside = inside;
              free = and_from _ _ (on_map g (point_at g i) inside) (passable_spot p on (cell_at g (point_at g i)) (ap (λ n. is_spot p (get_or g.cells n Wall)) index ∙ spot.1));
            }

    from : (o : Option ℕ) → position (is_spot p) g.cells ≡ o → option_map (point_at g) o ≡ Some b → IsOpenIn g on b
    from None found e = absurd (cc)
    from (Some i) found e = at_index i found (some_is (point_at g i) b e)
