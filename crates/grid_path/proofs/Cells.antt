-- The table of open cells: what it has at each cell, and how it is made.
use Rattle.std.proofs.Common.{◌≡◌, ℕ, zero, suc, ◌+◌, ◌-◌, ◌*◌, ◌/◌, ◌%◌, ◌<◌, ◌≤◌, subst, Bool, true, false, nat_lt, List, [], ◌∷◌, ◌++◌, length, get_or, refl, sym, ap, ◌∙◌, arith, ⊎_elim, length-append}
use Rattle.std.specs.Prelude.{replicate}
use Rattle.std.proofs.lemmas.Bool.{both_ways, cases_lt, and_parts, false_from_ne_true, ltb-true}
use Rattle.std.proofs.lemmas.List.{get_or_past, get_or-append-add, get_or-replicate, length-replicate}
use Rattle.std.proofs.lemmas.Nat.{div-mul-add, mod-mul-add, div-add-mod', mul-add-lt, mul-le}
use Rattle.std.proofs.Math.ListN.{get_or-append}
use Rattle.grid_world.specs.Grid.{Grid, Point, is_on_map, cell_at}
use Rattle.grid_world.specs.Open.{is_open, is_passable}
use Rattle.grid_world.proofs.CountUp.{get_or-map-count_up, length-map-count_up}
use Rattle.grid_path.specs.Bordered.{stride_of, number_of, is_open_inside, open_row, BeginsTable, IsTable}
use Rattle.grid_path.specs.Levels.{at}

pub record IsIn (g : Grid) (p : Point) : Type 0 where
  pub column : p.x < g.width
  pub row : p.y < g.height

-- an open cell is on the map
pub open_in : (g : Grid) (on : List Bool) (p : Point) → is_open g on p ≡ true → IsIn g p
open_in g on p e =
    let here = and_parts (is_on_map g p) (is_passable on (cell_at g p)) e in
    let both = and_parts (nat_lt p.x g.width) (nat_lt p.y g.height) here.0 in
    record { column = ltb-true p.x g.width both.0; row = ltb-true p.y g.height both.1 }

pub record IsInside (g : Grid) (x y : ℕ) : Type 0 where
  pub right : 1 ≤ x
  pub below : 1 ≤ y
  pub left : x ≤ g.width
  pub above : y ≤ g.height

open_inside : (g : Grid) (on : List Bool) (x y : ℕ) → is_open_inside g on x y ≡ true → IsInside g x y
open_inside g on zero y e = absurd (both_ways false refl e)
open_inside g on (suc x) zero e = absurd (both_ways false refl e)
open_inside g on (suc x) (suc y) e =
    let there = open_in g on (record { x = x; y = y }) e in
    let column = there.column in
    let row = there.row in
    record { right = omega arith; below = omega arith; left = omega (arith, column); above = omega (arith, row) }

-- more cells of row y, from column x on
pub begins_append : (g : Grid) (on t more : List Bool) (x y : ℕ) → BeginsTable g on t → length t ≡ y * stride_of g + x → x + length more ≤ stride_of g
    → ((k : ℕ) → k < length more → get_or more k false ≡ is_open_inside g on (x + k) y) → BeginsTable g on (t ++ more)
begins_append g on t more x y begins size within each i lt =
    ⊎_elim (λ old. get_or-append t more false i old ∙ begins i old) (λ late. new (i - length t) (omega (arith, late)) (omega (arith, late, lt, length-append t more))) (cases_lt i (length t))
  where
    new : (k : ℕ) → length t + k ≡ i → k < length more → get_or (t ++ more) i false ≡ is_open_inside g on (i % stride_of g) (i / stride_of g)
    new k same short =
        let s : ℕ = stride_of g in
        let inside : x + k < s = omega (arith, within, short) in
        let place : y * s + (x + k) ≡ i = omega (arith, same, size) in
        let column : x + k ≡ i % s = sym (mod-mul-add y s (x + k) inside) ∙ ap (λ n. n % s) place in
        let row : y ≡ i / s = sym (div-mul-add y s (x + k) inside) ∙ ap (λ n. n / s) place in
        ap (λ n. get_or (t ++ more) n false) (sym same) ∙ get_or-append-add t more k false ∙ each k short
        ∙ ap (λ n. is_open_inside g on n y) column ∙ ap (λ n. is_open_inside g on (i % s) n) row

-- the border above and below the map, and to its left and right
above_closed : (g : Grid) (on : List Bool) (x : ℕ) → is_open_inside g on x 0 ≡ false
above_closed g on zero = refl
above_closed g on (suc x) = refl

below_closed : (g : Grid) (on : List Bool) (x y : ℕ) → y ≡ g.height + 1 → is_open_inside g on x y ≡ false
below_closed g on zero y e = refl
below_closed g on (suc x) zero e = refl
below_closed g on (suc x) (suc y) e =
    false_from_ne_true (is_open g on (record { x = x; y = y })) (λ there. let row = (open_in g on (record { x = x; y = y }) there).row in omega (arith, e, row))

left_closed : (g : Grid) (on : List Bool) (x y : ℕ) → x ≡ 0 → is_open_inside g on x y ≡ false
left_closed g on zero y e = refl
left_closed g on (suc x) y e = absurd (omega (arith, e))

right_closed : (g : Grid) (on : List Bool) (x y : ℕ) → x ≡ g.width + 1 → is_open_inside g on x y ≡ false
right_closed g on zero y e = refl
right_closed g on (suc x) zero e = refl
right_closed g on (suc x) (suc y) e =
    false_from_ne_true (is_open g on (record { x = x; y = y })) (λ there. let column = (open_in g on (record { x = x; y = y }) there).column in omega (arith, e, column))

-- the table with its first rows
pub record HasRows (g : Grid) (on t : List Bool) (rows : ℕ) : Type 0 where
  pub begins : BeginsTable g on t
  pub size : length t ≡ rows * stride_of g

-- a row above or below the map
outer_row : (g : Grid) (on t t' : List Bool) (y : ℕ) → HasRows g on t y → t' ≡ t ++ replicate (stride_of g) false
    → ((x : ℕ) → is_open_inside g on x y ≡ false) → HasRows g on t' (y + 1)
outer_row g on t t' y had e closed = subst (λ (xs : List Bool). HasRows g on xs (y + 1)) (sym e) record {
  begins = begins_append g on t (replicate s false) 0 y had.begins (let size = had.size in omega (arith, size)) (omega (arith, long))
      (λ k short. get_or-replicate s k false false (omega (arith, short, long)) ∙ sym (closed (0 + k)));
  size = (let size = had.size in omega (arith, size, long, length-append t (replicate s false)));
}
  where
    s : ℕ
    s = stride_of g

    long : length (replicate (stride_of g) false) ≡ stride_of g
    long = length-replicate (stride_of g) false

pub first_row : (g : Grid) (on t t' : List Bool) → t ≡ [] → t' ≡ t ++ replicate (stride_of g) false → HasRows g on t' 1
first_row g on t t' none e = outer_row g on t t' 0 (record { begins = λ i lt. absurd (omega (arith, lt, empty)); size = omega (arith, empty) }) e (above_closed g on)
  where
    empty : length t ≡ 0
    empty = ap length none

pub last_row : (g : Grid) (on t t' : List Bool) (y : ℕ) → y ≡ g.height → HasRows g on t (y + 1) → t' ≡ t ++ replicate (stride_of g) false → IsTable g on t'
last_row g on t t' y e had pushed =
    let all = outer_row g on t t' (y + 1) had pushed (λ x. below_closed g on x (y + 1) (omega (arith, e))) in
    record { size = all.size ∙ ap (λ n. n * stride_of g) (let rows : y + 1 + 1 ≡ g.height + 2 = omega (arith, e) in rows); cells = all.begins }

-- a row of the map, between its two cells of the border
pub inner_row : (g : Grid) (on t t1 t2 t3 : List Bool) (y : ℕ) → HasRows g on t (y + 1) → t1 ≡ t ++ false ∷ [] → t2 ≡ t1 ++ open_row g on y → t3 ≡ t2 ++ false ∷ []
    → HasRows g on t3 (y + 1 + 1)
inner_row g on t t1 t2 t3 y had e1 e2 e3 = record { begins = three; size = omega (arith, size3) }
  where
    s : ℕ
    s = stride_of g

    size0 : length t ≡ (y + 1) * stride_of g
    size0 = had.size

    one : BeginsTable g on t1
    one = subst (BeginsTable g on) (sym e1)
        (begins_append g on t (false ∷ []) 0 (y + 1) had.begins (omega (arith, size0)) (omega arith)
        (λ k short. let first : k ≡ 0 = omega (arith, short) in
        ap (λ n. get_or (false ∷ []) n false) first ∙ sym (left_closed g on (0 + k) (y + 1) (omega (arith, first)))))

    size1 : length t1 ≡ (y + 1) * stride_of g + 1
    size1 = ap length e1 ∙ length-append t (false ∷ []) ∙ ap (λ n. n + 1) size0

    wide : length (open_row g on y) ≡ g.width
    wide = length-map-count_up (λ x. is_open g on (record { x = x; y = y })) 0 g.width

    two : BeginsTable g on t2
    two = subst (BeginsTable g on) (sym e2)
        (begins_append g on t1 (open_row g on y) 1 (y + 1) one size1 (omega (arith, wide))
        (λ k short. get_or-map-count_up (λ x. is_open g on (record { x = x; y = y })) 0 g.width k false (omega (arith, wide, short))
        ∙ (let column : 0 + k ≡ k = omega arith in ap (λ n. is_open g on (record { x = n; y = y })) column)
        ∙ (let column : suc k ≡ 1 + k = omega arith in ap (λ n. is_open_inside g on n (suc y)) column)
        ∙ (let row : suc y ≡ y + 1 = omega arith in ap (λ n. is_open_inside g on (1 + k) n) row)))

    size2 : length t2 ≡ (y + 1) * stride_of g + (1 + g.width)
    size2 = ap length e2 ∙ length-append t1 (open_row g on y) ∙ (let sum : length t1 + length (open_row g on y) ≡ (y + 1) * stride_of g + (1 + g.width) = omega (arith, size1, wide) in sum)

    three : BeginsTable g on t3
    three = subst (BeginsTable g on) (sym e3)
        (begins_append g on t2 (false ∷ []) (1 + g.width) (y + 1) two size2 (omega arith)
        (λ k short. let first : k ≡ 0 = omega (arith, short) in
        ap (λ n. get_or (false ∷ []) n false) first ∙ sym (right_closed g on (1 + g.width + k) (y + 1) (omega (arith, first)))))

    size3 : length t3 ≡ (y + 1) * stride_of g + (2 + g.width)
    size3 = ap length e3 ∙ length-append t2 (false ∷ []) ∙ (let sum : length t2 + 1 ≡ (y + 1) * stride_of g + (2 + g.width) = omega (arith, size2) in sum)

-- a cell of a row that is neither the first nor the last
pub inner_number : (s rows x i h n : ℕ) → rows * s + x ≡ i → 1 ≤ rows → rows ≤ h → x < s → n ≡ (h + 2) * s → (s ≤ i) × (i + s < n)
inner_number s rows x i h n place below above column size =
    let first = mul-le 1 s rows s below (omega arith) in
    let last = mul-le (rows + 2) s (h + 2) s (omega (arith, above)) (omega arith) in
    (omega (arith, first, place), omega (arith, last, place, column, size))

module _ (g : Grid) (on t : List Bool) (is : IsTable g on t) where
  pub cell_in_table : (x y : ℕ) → x < stride_of g → y < g.height + 2 → at t (y * stride_of g + x) ≡ is_open_inside g on x y
  cell_in_table x y column row =
      let size = is.size in
      let short : y * stride_of g + x < length t = omega (arith, mul-add-lt y (stride_of g) x (g.height + 2) row column, size) in
      is.cells (y * stride_of g + x) short
      ∙ ap (λ n. is_open_inside g on n ((y * stride_of g + x) / stride_of g)) (mod-mul-add y (stride_of g) x column)
      ∙ ap (λ n. is_open_inside g on x n) (div-mul-add y (stride_of g) x column)

  -- an open cell is in no outer row
  pub inner : (i : ℕ) → at t i ≡ true → (stride_of g ≤ i) × (i + stride_of g < length t)
  inner i e =
      let short : i < length t = ⊎_elim (λ l. l) (λ l. absurd (both_ways (at t i) (get_or_past t i false l) e)) (cases_lt i (length t)) in
      let s : ℕ = stride_of g in
      let there = open_inside g on (i % s) (i / s) (sym (is.cells i short) ∙ e) in
      let left = there.left in
      inner_number s (i / s) (i % s) i g.height (length t) (div-add-mod' i s) there.below there.above (omega (arith, left)) is.size

  -- the cell of a point of the map
  pub point_in_table : (p : Point) → IsIn g p → at t (number_of g p) ≡ is_open g on p
  point_in_table p there = let column = there.column in let row = there.row in cell_in_table (suc p.x) (suc p.y) (omega (arith, column)) (omega (arith, row))
