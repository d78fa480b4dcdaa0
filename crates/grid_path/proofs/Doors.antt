-- The rows of a map with all doors shut, and the doors opened one after another.
use Rattle.std.proofs.Common.{◌≡◌, ℕ, zero, suc, ◌+◌, ◌-◌, ◌*◌, ◌/◌, ◌%◌, ◌<◌, ◌≤◌, ◌⊎◌, inl, inr, Bool, true, false, ◌&&◌, nat_lt, List, ◌++◌, div-lt_iff_lt-mul, map, length, get_or, set, drop, take, refl, sym, ap, ◌∙◌, arith, ⊎_elim, get_or-take, get_or-drop, length-take, length-drop, get_or-set_same, get_or-set_other, length-set}
use Rattle.std.specs.Prelude.{Result, Ok, Err, OnOk, is_ok, if◌then◌else◌}
use Rattle.std.proofs.lemmas.Bool.{cases_eq, and_parts, ltb-true}
use Rattle.std.proofs.lemmas.List.{ext_get_or, get_or-map, length-map}
use Rattle.std.proofs.lemmas.Nat.{div-add-mod', div-mul-add, mod-mul-add, mul-add-lt, mul-le}
use Rattle.std.proofs.lemmas.Grind.{get_or_default_zero}
use Rattle.grid_world.specs.declared.cell.Cell.{Cell}
use Rattle.grid_world.specs.declared.cell.Cell.TheVariants.{Wall, Door}
use Rattle.grid_world.specs.Grid.{Grid, Point, is_on_map, index_of, point_at, cell_at}
use Rattle.grid_world.specs.Open.{is_open, is_passable}
use Rattle.grid_world.specs.Ground.{is_door, no_signals, ListsDoors}
use Rattle.grid_world.specs.World.{IsSized, point}
use Rattle.grid_world.proofs.CountUp.{get_or-map-count_up, length-map-count_up}
use Rattle.grid_path.specs.Bordered.{stride_of, number_of, is_open_inside, open_row, IsTable}
use Rattle.grid_path.specs.Levels.{at}
use Rattle.grid_path.proofs.Cells.{IsIn}
use Rattle.grid_path.proofs.Numbered.{point_eq}
use Rattle.grid_path.proofs.Places.{on_map}

-- a row of the floor
pub floor_row : (g : Grid) (y : ℕ) → IsSized g → y < g.height
    → take g.width (drop (y * g.width) (map (is_passable no_signals) g.cells)) ≡ open_row g no_signals y
floor_row g y sized row = ext_get_or false (take g.width (drop (y * g.width) floor)) (open_row g no_signals y) (long ∙ sym wide) same
  where
    floor : List Bool
    floor = map (is_passable no_signals) g.cells

    wide : length (open_row g no_signals y) ≡ g.width
    wide = length-map-count_up (λ x. is_open g no_signals (point x y)) 0 g.width

    all : length (map (is_passable no_signals) g.cells) ≡ g.width * g.height
    all = length-map g.cells (is_passable no_signals) ∙ sized.all_cells

    fits : y * g.width + g.width ≤ g.width * g.height
    fits = let rows = mul-le (y + 1) g.width g.height g.width (omega (arith, row)) (omega arith) in omega (arith, rows)

    long : length (take g.width (drop (y * g.width) (map (is_passable no_signals) g.cells))) ≡ g.width
    long =
        let taken = length-take g.width (drop (y * g.width) floor) in
        let dropped = length-drop (y * g.width) floor in
        omega (arith, taken, dropped, all, fits)

    here : (k : ℕ) → k < g.width → is_passable no_signals (cell_at g (point k y)) ≡ is_open g no_signals (point k y)
    here k column = sym (ap (λ b. b && is_passable no_signals (cell_at g (point k y))) (on_map g (point k y) (record { column = column; row = row })))

    same : (k : ℕ) → k < length (take g.width (drop (y * g.width) (map (is_passable no_signals) g.cells)))
        → get_or (take g.width (drop (y * g.width) (map (is_passable no_signals) g.cells))) k false ≡ get_or (open_row g no_signals y) k false
    same k short =
        let column : k < g.width = omega (arith, short, long) in
        let from_0 : 0 + k ≡ k = omega arith in
        let inside : y * g.width + k < length g.cells = (let size = sized.all_cells in omega (arith, size, fits, column)) in
        get_or-take g.width (drop (y * g.width) floor) k false column
        ∙ get_or-drop (y * g.width) floor k false
        ∙ get_or-map (is_passable no_signals) g.cells (y * g.width + k) Wall false inside
        ∙ here k column
        ∙ sym (get_or-map-count_up (λ x. is_open g no_signals (point x y)) 0 g.width k false column ∙ ap (λ x. is_open g no_signals (point x y)) from_0)

-- what was appended, where it could be
pub appended : {X E : Type 0} (r : Result X E) (old new more want : List Bool) → new ≡ (if is_ok r then old ++ more else old) → more ≡ want
    → OnOk r (new ≡ old ++ want)
appended (Ok x) old new more want e same = e ∙ ap (λ xs. old ++ xs) same
appended (Err x) old new more want e same = tt

-- ---- the doors

-- a cell is right, or that of a door that is still to be opened
abbrev pub IsRightOrLeft : Grid → List Bool → List ℕ → ℕ → List Bool → ℕ → Type 0
IsRightOrLeft g on doors k t i =
    (at t i ≡ is_open_inside g on (i % stride_of g) (i / stride_of g))
    ⊎ ((l : ℕ) × (k ≤ l) × (l < length doors) × (number_of g (point_at g (get_or doors l 0)) ≡ i))

-- the doors that stand in the list before place k are opened where their signal is on
pub record HasOpened (g : Grid) (on : List Bool) (doors : List ℕ) (k : ℕ) (t : List Bool) : Type 0 where
  pub size : length t ≡ (g.height + 2) * stride_of g
  pub each : (i : ℕ) → i < length t → IsRightOrLeft g on doors k t i

passable_or_door : (on : List Bool) (cell : Cell) → (is_passable no_signals cell ≡ is_passable on cell) ⊎ (is_door cell ≡ true)
passable_or_door on (Door a) = inr refl
passable_or_door on _ = inl refl

record IsDoorAt (g : Grid) (x y : ℕ) : Type 0 where
  p : Point
  inside : IsIn g p
  door : is_door (cell_at g p) ≡ true
  column : suc p.x ≡ x
  row : suc p.y ≡ y

same_or_door : (g : Grid) (on : List Bool) (x y : ℕ) → (is_open_inside g no_signals x y ≡ is_open_inside g on x y) ⊎ IsDoorAt g x y
same_or_door g on zero y = inl refl
same_or_door g on (suc x) zero = inl refl
same_or_door g on (suc x) (suc y) = by_place (is_on_map g (point x y)) refl
  where
    by_place : (b : Bool) → is_on_map g (point x y) ≡ b
        → (is_open g no_signals (point x y) ≡ is_open g on (point x y)) ⊎ IsDoorAt g (suc x) (suc y)
    by_place false off = inl (ap (λ b. b && is_passable no_signals (cell_at g (point x y))) off ∙ sym (ap (λ b. b && is_passable on (cell_at g (point x y))) off))
    by_place true there =
        ⊎_elim
        (λ same. inl (ap (λ b. is_on_map g (point x y) && b) same))
        (λ door. inr (record {
          p = point x y;
          inside = (let both = and_parts (nat_lt x g.width) (nat_lt y g.height) there in record { column = ltb-true x g.width both.0; row = ltb-true y g.height both.1 });
          door = door;
          column = refl;
          row = refl;
        }))
        (passable_or_door on (cell_at g (point x y)))

-- the point of a cell of the map
point_of_index : (g : Grid) (p : Point) → IsIn g p → point_at g (index_of g p) ≡ p
point_of_index g p there = point_eq (point_at g (index_of g p)) p (mod-mul-add p.y g.width p.x there.column) (div-mul-add p.y g.width p.x there.column)

index_within : (g : Grid) (p : Point) → IsSized g → IsIn g p → index_of g p < length g.cells
index_within g p sized there = let size = sized.all_cells in let place = mul-add-lt p.y g.width p.x g.height there.row there.column in omega (arith, size, place)

pub opened_none : (g : Grid) (on : List Bool) (doors : List ℕ) (t : List Bool) → IsSized g → ListsDoors doors g.cells → IsTable g no_signals t → HasOpened g on doors 0 t
opened_none g on doors t sized listed is = record { size = is.size; each = λ i lt. each i lt (same_or_door g on (i % stride_of g) (i / stride_of g)) }
  where
    each : (i : ℕ) → i < length t
        → (is_open_inside g no_signals (i % stride_of g) (i / stride_of g) ≡ is_open_inside g on (i % stride_of g) (i / stride_of g)) ⊎ IsDoorAt g (i % stride_of g) (i / stride_of g)
        → IsRightOrLeft g on doors 0 t i
    each i lt (inl same) = inl (is.cells i lt ∙ same)
    each i lt (inr door) =
        let place = listed.all (index_of g door.p) (index_within g door.p sized door.inside) door.door in
        let listed_at : get_or doors place.0 0 ≡ index_of g door.p = sym (get_or_default_zero doors place.0 (index_of g door.p) place.1) ∙ place.2 in
        inr (
          place.0,
          omega arith,
          place.1,
          ap (λ n. number_of g (point_at g n)) listed_at ∙ ap (number_of g) (point_of_index g door.p door.inside)
              ∙ ap (λ n. n * stride_of g + suc door.p.x) door.row ∙ ap (λ n. i / stride_of g * stride_of g + n) door.column ∙ div-add-mod' i (stride_of g),
        )

-- the cell of a door of the map
pub record IsDoorCell (g : Grid) (d : ℕ) : Type 0 where
  pub inside : IsIn g (point_at g d)
  pub short : number_of g (point_at g d) < (g.height + 2) * stride_of g

pub door_cell : (g : Grid) (d : ℕ) → IsSized g → d < length g.cells → IsDoorCell g d
door_cell g d sized lt = record {
  inside = inside;
  short = (let column = inside.column in let row = inside.row in
      let place = mul-add-lt (suc (d / g.width)) (stride_of g) (suc (d % g.width)) (g.height + 2) (omega (arith, row)) (omega (arith, column)) in omega (arith, place));
}
  where
    inside : IsIn g (point_at g d)
    inside = let columns = sized.some_columns in let size = sized.all_cells in
        record { column = omega (arith, columns); row = (div-lt_iff_lt-mul columns).1 (omega (arith, lt, size)) }

pub opened_more : (g : Grid) (on : List Bool) (doors : List ℕ) (k : ℕ) (t : List Bool) (j : ℕ) (v : Bool) → IsSized g → k < length doors → get_or doors k 0 < length g.cells
    → j ≡ number_of g (point_at g (get_or doors k 0)) → v ≡ is_open g on (point_at g (get_or doors k 0))
    → HasOpened g on doors k t → HasOpened g on doors (k + 1) (set t j v)
opened_more g on doors k t j v sized below on_cell place open_v had = record {
  size = length-set t j v ∙ had.size;
  each = λ i lt. ⊎_elim (λ same. inl (written i same)) (λ other. elsewhere i other (omega (arith, lt, length-set t j v))) (cases_eq i j);
}
  where
    d : ℕ
    d = get_or doors k 0

    cell : IsDoorCell g (get_or doors k 0)
    cell = door_cell g (get_or doors k 0) sized on_cell

    written : (i : ℕ) → i ≡ j → at (set t j v) i ≡ is_open_inside g on (i % stride_of g) (i / stride_of g)
    written i same =
        let short = cell.short in
        let size = had.size in
        let within : j < length t = omega (arith, short, size, place) in
        let column_in = cell.inside.column in
        let narrow : suc (d % g.width) < stride_of g = omega (arith, column_in) in
        let e : i ≡ suc (d / g.width) * stride_of g + suc (d % g.width) = same ∙ place in
        let column : suc (d % g.width) ≡ i % stride_of g = sym (ap (λ n. n % stride_of g) e ∙ mod-mul-add (suc (d / g.width)) (stride_of g) (suc (d % g.width)) narrow) in
        let row : suc (d / g.width) ≡ i / stride_of g = sym (ap (λ n. n / stride_of g) e ∙ div-mul-add (suc (d / g.width)) (stride_of g) (suc (d % g.width)) narrow) in
        ap (at (set t j v)) same ∙ get_or-set_same t j v false within ∙ open_v
        ∙ ap (λ n. is_open_inside g on n (suc (d / g.width))) column ∙ ap (λ n. is_open_inside g on (i % stride_of g) n) row

    elsewhere : (i : ℕ) → (i ≡ j → ⊥) → i < length t → IsRightOrLeft g on doors (k + 1) (set t j v) i
    elsewhere i other lt = from (had.each i lt)
      where
        from : IsRightOrLeft g on doors k t i → IsRightOrLeft g on doors (k + 1) (set t j v) i
        from (inl right) = inl (get_or-set_other t j i v false other ∙ right)
        from (inr (l, low, high, e)) = ⊎_elim (λ same. absurd (other (sym e ∙ ap (λ n. number_of g (point_at g (get_or doors n 0))) same ∙ sym place)))
            (λ ne. inr (l, omega (arith, low, ne), high, e)) (cases_eq l k)

pub opened_all : (g : Grid) (on : List Bool) (doors : List ℕ) (k : ℕ) (t : List Bool) → length doors ≤ k → HasOpened g on doors k t → IsTable g on t
opened_all g on doors k t past had = record {
  size = had.size;
  cells = λ i lt. ⊎_elim (λ right. right) (λ left. absurd (omega (arith, left.1, left.2, past))) (had.each i lt);
}

-- the same, as the code says it, which has the map's width in a variable

pub floor_part : (g : Grid) (y width : ℕ) (floor : List Bool) → IsSized g → y < g.height → width ≡ g.width → floor ≡ map (is_passable no_signals) g.cells
    → take (y * width + width - y * width) (drop (y * width) floor) ≡ open_row g no_signals y
floor_part g y width floor sized row wide e =
    let count : y * width + width - y * width ≡ g.width = omega (arith, wide) in
    let start : y * width ≡ y * g.width = ap (λ n. y * n) wide in
    ap (λ n. take n (drop (y * width) floor)) count ∙ ap (λ n. take g.width (drop n floor)) start ∙ ap (λ xs. take g.width (drop (y * g.width) xs)) e
    ∙ floor_row g y sized row

pub door_number : (g : Grid) (d width : ℕ) → width ≡ g.width → (d / width + 1) * (width + 2) + d % width + 1 ≡ number_of g (point_at g d)
door_number g d width wide =
    let same : (d / width + 1) * (width + 2) + d % width + 1 ≡ suc (d / width) * (width + 2) + suc (d % width) = omega arith in
    same ∙ ap (λ n. suc (d / n) * (n + 2) + suc (d % n)) wide
