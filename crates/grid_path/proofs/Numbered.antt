-- Walks over the points of a map, and walks over cells by number.
use Rattle.std.proofs.Common.{◌≡◌, ℕ, zero, suc, ◌+◌, ◌*◌, ◌/◌, ◌%◌, ◌<◌, Bool, true, false, List, [], ◌∷◌, length, refl, sym, ap, subst, ◌∙◌, arith}
use Rattle.std.specs.Prelude.{Some, option_map}
use Rattle.std.proofs.lemmas.Bool.{both_ways}
use Rattle.std.proofs.lemmas.Nat.{div-mul-add, mod-mul-add}
use Rattle.grid_world.specs.declared.cell.Dir.{Dir}
use Rattle.grid_world.specs.declared.cell.Dir.TheVariants.{North, East, South, West}
use Rattle.grid_world.specs.Grid.{Grid, Point}
use Rattle.grid_world.specs.Open.{is_open}
use Rattle.grid_world.specs.Walks.{next, one_less, IsWalk}
use Rattle.grid_world.specs.World.{point}
use Rattle.grid_world.proofs.Reaching.{some_is}
use Rattle.grid_path.specs.Bordered.{stride_of, number_of, is_open_inside, IsTable, IsNext}
use Rattle.grid_path.specs.Levels.{at, Reaches}
use Rattle.grid_path.proofs.Cells.{IsIn, open_in, cell_in_table, point_in_table}

pub point_eq : (a b : Point) → a.x ≡ b.x → a.y ≡ b.y → a ≡ b
point_eq a b columns rows = ap (λ n. point n a.y) columns ∙ ap (λ n. point b.x n) rows

-- two points with one number are one point
pub one_point : (g : Grid) (a b : Point) → IsIn g a → IsIn g b → number_of g a ≡ number_of g b → a ≡ b
one_point g a b in_a in_b e =
    let s : ℕ = stride_of g in
    let column_a = in_a.column in
    let column_b = in_b.column in
    let short_a : suc a.x < s = omega (arith, column_a) in
    let short_b : suc b.x < s = omega (arith, column_b) in
    let columns : suc a.x ≡ suc b.x = sym (mod-mul-add (suc a.y) s (suc a.x) short_a) ∙ ap (λ n. n % s) e ∙ mod-mul-add (suc b.y) s (suc b.x) short_b in
    let rows : suc a.y ≡ suc b.y = sym (div-mul-add (suc a.y) s (suc a.x) short_a) ∙ ap (λ n. n / s) e ∙ div-mul-add (suc b.y) s (suc b.x) short_b in
    point_eq a b (omega (arith, columns)) (omega (arith, rows))

-- the next point in a direction, by its column and its row
abbrev IsNextPoint : Dir → Point → Point → Type 0
IsNextPoint North a c = (c.x ≡ a.x) × (suc c.y ≡ a.y)
IsNextPoint East a c = (c.x ≡ suc a.x) × (c.y ≡ a.y)
IsNextPoint South a c = (c.x ≡ a.x) × (c.y ≡ suc a.y)
IsNextPoint West a c = (suc c.x ≡ a.x) × (c.y ≡ a.y)

above : (x y : ℕ) (c : Point) → option_map (λ v. point x v) (one_less y) ≡ Some c → (c.x ≡ x) × (suc c.y ≡ y)
above x zero c e = absurd (cc)
above x (suc y) c e = let same = some_is (point x y) c e in (ap (λ (p : Point). p.x) (sym same), ap (λ (p : Point). suc p.y) (sym same))

left : (x y : ℕ) (c : Point) → option_map (λ v. point v y) (one_less x) ≡ Some c → (suc c.x ≡ x) × (c.y ≡ y)
left zero y c e = absurd (cc)
left (suc x) y c e = let same = some_is (point x y) c e in (ap (λ (p : Point). suc p.x) (sym same), ap (λ (p : Point). p.y) (sym same))

next_point : (d : Dir) (a c : Point) → next d a ≡ Some c → IsNextPoint d a c
next_point North a c e = above a.x a.y c e
next_point East a c e = let same = some_is (point (suc a.x) a.y) c e in (ap (λ (p : Point). p.x) (sym same), ap (λ (p : Point). p.y) (sym same))
next_point South a c e = let same = some_is (point a.x (suc a.y)) c e in (ap (λ (p : Point). p.x) (sym same), ap (λ (p : Point). p.y) (sym same))
next_point West a c e = left a.x a.y c e

-- equal columns and rows, of which one is one more
north_number : (s cx cy ax ay : ℕ) → cx ≡ ax → suc cy ≡ ay → suc cy * s + suc cx + s ≡ suc ay * s + suc ax
north_number s cx cy ax ay column row = let rows : suc cy * s ≡ ay * s = ap (λ n. n * s) row in omega (arith, rows, column)

east_number : (s cx cy ax ay : ℕ) → cx ≡ suc ax → cy ≡ ay → suc cy * s + suc cx ≡ suc ay * s + suc ax + 1
east_number s cx cy ax ay column row = let rows : cy * s ≡ ay * s = ap (λ n. n * s) row in omega (arith, rows, column)

next_number : (g : Grid) (d : Dir) (a c : Point) → IsNextPoint d a c → IsNext (stride_of g) d (number_of g a) (number_of g c)
next_number g North a c (column, row) = north_number (stride_of g) c.x c.y a.x a.y column row
next_number g East a c (column, row) = east_number (stride_of g) c.x c.y a.x a.y column row
next_number g South a c (column, row) = sym (north_number (stride_of g) a.x a.y c.x c.y (sym column) (sym row))
next_number g West a c (column, row) = sym (east_number (stride_of g) a.x a.y c.x c.y (sym column) (sym row))

module _ (g : Grid) (on t : List Bool) (is : IsTable g on t) where
  -- a step over points is a step over numbers
  pub forth : (d : Dir) (a c : Point) → next d a ≡ Some c → is_open g on c ≡ true → IsNext (stride_of g) d (number_of g a) (number_of g c) × (at t (number_of g c) ≡ true)
  forth d a c e there = (next_number g d a c (next_point d a c e), point_in_table g on t is c (open_in g on c there) ∙ there)

  -- an open point that is next to a point, and its number
  pub record IsStep (d : Dir) (a : Point) (j : ℕ) : Type 0 where
    pub to : Point
    pub step : next d a ≡ Some to
    pub free : is_open g on to ≡ true
    pub number : number_of g to ≡ j

  inside : (x y j : ℕ) → j ≡ y * stride_of g + x → x < stride_of g → y < g.height + 2 → at t j ≡ true → is_open_inside g on x y ≡ true
  inside x y j place column row e = sym (cell_in_table g on t is x y column row) ∙ ap (at t) (sym place) ∙ e

  back_north : (x y j : ℕ) → x < g.width → y < g.height → j + stride_of g ≡ suc y * stride_of g + suc x → at t j ≡ true → IsStep North (point x y) j
  back_north x zero j column row e here = absurd (both_ways false refl (inside (suc x) zero j (omega (arith, e)) (omega (arith, column)) (omega arith) here))
  back_north x (suc y) j column row e here = record {
    to = point x y;
    step = refl;
    free = inside (suc x) (suc y) j (omega (arith, e)) (omega (arith, column)) (omega (arith, row)) here;
    number = omega (arith, e);
  }

  back_west : (x y j : ℕ) → x < g.width → y < g.height → j + 1 ≡ suc y * stride_of g + suc x → at t j ≡ true → IsStep West (point x y) j
  back_west zero y j column row e here = absurd (both_ways false refl (inside zero (suc y) j (omega (arith, e)) (omega arith) (omega (arith, row)) here))
  back_west (suc x) y j column row e here = record {
    to = point x y;
    step = refl;
    free = inside (suc x) (suc y) j (omega (arith, e)) (omega (arith, column)) (omega (arith, row)) here;
    number = omega (arith, e);
  }

  -- a step over numbers is a step over points
  pub back : (d : Dir) (a : Point) (j : ℕ) → IsIn g a → IsNext (stride_of g) d (number_of g a) j → at t j ≡ true → IsStep d a j
  back North a j there e here = back_north a.x a.y j there.column there.row e here
  back East a j there e here = let column = there.column in let row = there.row in record {
    to = point (suc a.x) a.y;
    step = refl;
    free = inside (suc (suc a.x)) (suc a.y) j (omega (arith, e)) (omega (arith, column)) (omega (arith, row)) here;
    number = omega (arith, e);
  }
  back South a j there e here = let column = there.column in let row = there.row in record {
    to = point a.x (suc a.y);
    step = refl;
    free = inside (suc a.x) (suc (suc a.y)) j (omega (arith, e)) (omega (arith, column)) (omega (arith, row)) here;
    number = omega (arith, e);
  }
  back West a j there e here = back_west a.x a.y j there.column there.row e here

  -- a walk over points is one over numbers, and the other way round
  pub reaches_of : (b : Point) (cells : List Point) (a : Point) → IsWalk (is_open g on) a cells b
      → Reaches (at t) (stride_of g) (number_of g b) (length cells) (number_of g a)
  reaches_of b [] a e = ap (number_of g) e
  reaches_of b (c ∷ cells) a (d, step, there, walk) =
      let f = forth d a c step there in (d, number_of g c, f.0, f.1, reaches_of b cells c walk)

  pub walk_of : (b : Point) → IsIn g b → (n : ℕ) (a : Point) → IsIn g a → Reaches (at t) (stride_of g) (number_of g b) n (number_of g a)
      → (cells : List Point) × IsWalk (is_open g on) a cells b × (length cells ≡ n)
  walk_of b in_b zero a in_a e = ([], one_point g a b in_a in_b e, refl)
  walk_of b in_b (suc n) a in_a (d, j, step, there, rest) =
      let r = back d a j in_a step there in
      let from : Reaches (at t) (stride_of g) (number_of g b) n (number_of g r.to) = subst (λ (i : ℕ). Reaches (at t) (stride_of g) (number_of g b) n i) (sym r.number) rest in
      let w = walk_of b in_b n r.to (open_in g on r.to r.free) from in
      (r.to ∷ w.0, (d, r.step, r.free, w.1), ap suc w.2)
