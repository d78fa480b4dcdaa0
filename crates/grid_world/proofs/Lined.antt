-- The text of rows: its parts, its length, and what opening doors makes of it.
use Rattle.std.proofs.Common.{◌≡◌, ℕ, zero, suc, ◌+◌, ◌-◌, ◌*◌, ◌<◌, ◌≤◌, ◌==◌, ◌&&◌, Bool, true, false, if◌then◌else◌, List, [], ◌∷◌, ◌++◌, All, None, map, length, get_or, take, drop, refl, sym, subst, ap, ap₂, ◌∙◌, arith, inl, inr, append_assoc, append-nil, nat_lt, nat_le, eq-eqb, ne_eqb}
use Rattle.std.specs.List.{flat_map}
use Rattle.std.proofs.lemmas.Bool.{cases_lt, cases_eq, le-leb, leb-true, lt-ltb, le-ltb}
use Rattle.std.proofs.lemmas.List.{length-append, length-map, map-append}
use Rattle.std.proofs.lemmas.List.Concat.{flat_map-append}
use Rattle.std.proofs.Math.ListN.{drop_of_length-le}
use Rattle.std.proofs.Math.Seq.{drop-append_seam, take-append_seam}
use Rattle.std.proofs.lemmas.List.{get_or-map, get_or-replicate, get_or_past, take_all}
use borrow.Rule.Slice.PartMut.{put_mid}
use Rattle.grid_world.specs.declared.cell.Cell.{Cell}
use Rattle.grid_world.specs.declared.cell.Cell.TheVariants.{Wall, Floor, Door, Spot}
use Rattle.grid_world.specs.Grid.{Grid, Point, cell_at, index_of}
use Rattle.grid_world.specs.Glyphs.{base_glyph, content_glyph, glyph, glyph_of}
use Rattle.grid_world.specs.Ground.{emptied, no_signals}
use Rattle.grid_world.specs.Map.{cell_of, count_up, is_between}
use Rattle.grid_world.specs.Open.{is_on}
use Rattle.grid_world.specs.Rows.{line, lines, opened, IsPlaced}
use Rattle.grid_world.specs.World.{point, row_glyphs}
use Rattle.grid_world.proofs.CountUp.{length-map-count_up}
use Rattle.grid_world.proofs.Rows.{and_parts}

pub count_up-zero : (i : ℕ) → count_up i 0 ≡ []
unfolding count_up
count_up-zero i = refl

count_up-suc : (i n : ℕ) → count_up i (suc n) ≡ i ∷ count_up (suc i) n
unfolding count_up
count_up-suc i n = refl

count_up-append : (i m n : ℕ) → count_up i (m + n) ≡ count_up i m ++ count_up (i + m) n
count_up-append i zero n =
    let e : zero + n ≡ n = omega arith in let f : i + zero ≡ i = omega arith in rw (e, f, count_up-zero) refl
count_up-append i (suc m) n =
    let e : suc m + n ≡ suc (m + n) = omega arith in
    let f : i + suc m ≡ suc i + m = omega arith in
    rw (e, f, count_up-suc i (m + n), count_up-suc i m) (ap (λ l. i ∷ l) (count_up-append (suc i) m n))

pub count_up-snoc : (i n : ℕ) → count_up i (n + 1) ≡ count_up i n ++ (i + n) ∷ []
count_up-snoc i n = count_up-append i n 1 ∙ ap (λ l. count_up i n ++ l) (count_up-suc (i + n) 0 ∙ ap (λ l. (i + n) ∷ l) (count_up-zero (suc (i + n))))

module _ (g : Grid) (on : List Bool) where
  pub lines-append : (first m n : ℕ) → lines g on first (m + n) ≡ lines g on first m ++ lines g on (first + m) n
  lines-append first m n = ap (flat_map (line g on)) (count_up-append first m n)
      ∙ flat_map-append (line g on) (count_up first m) (count_up (first + m) n)

  pub lines-one : (y : ℕ) → lines g on y 1 ≡ line g on y
  lines-one y = ap (flat_map (line g on)) (count_up-suc y 0 ∙ ap (λ l. y ∷ l) (count_up-zero (suc y))) ∙ append-nil (line g on y)

  pub lines-none : (y : ℕ) → lines g on y 0 ≡ []
  lines-none y = ap (flat_map (line g on)) (count_up-zero y)

  pub lines-more : (first n : ℕ) → lines g on first (n + 1) ≡ lines g on first n ++ line g on (first + n)
  lines-more first n = lines-append first n 1 ∙ ap (λ l. lines g on first n ++ l) (lines-one (first + n))

  pub lines-next : (y n : ℕ) → lines g on y (suc n) ≡ line g on y ++ lines g on (y + 1) n
  lines-next y n = let e : suc n ≡ 1 + n = omega arith in
      ap (lines g on y) e ∙ lines-append y 1 n ∙ ap (λ l. l ++ lines g on (y + 1) n) (lines-one y)

  pub length-row_glyphs : (y : ℕ) → length (row_glyphs g on y) ≡ g.width
  length-row_glyphs y = length-map-count_up (λ x. glyph g on (point x y)) 0 g.width

  pub length-line : (y : ℕ) → length (line g on y) ≡ g.width + 1
  length-line y = length-append (row_glyphs g on y) (10 ∷ []) ∙ ap (λ n. n + 1) (length-row_glyphs y)

  pub length-lines : (first n : ℕ) → length (lines g on first n) ≡ n * (g.width + 1)
  length-lines first zero = ap length (lines-none first) ∙ omega arith
  length-lines first (suc n) =
      ap length (lines-next first n) ∙ length-append (line g on first) (lines g on (first + 1) n)
      ∙ ap₂ (λ a b. a + b) (length-line first) (length-lines (first + 1) n) ∙ omega arith

-- some of the rows, cut out of the text of all
pub lines-cut : (g : Grid) (on : List Bool) (first count height : ℕ) → first + count ≤ height
    → take (count * (g.width + 1)) (drop (first * (g.width + 1)) (lines g on 0 height)) ≡ lines g on first count
lines-cut g on first count height within =
    let all : height ≡ first + (count + (height - (first + count))) = omega arith in
    let parts : lines g on 0 height ≡ lines g on 0 first ++ (lines g on first count ++ lines g on (first + count) (height - (first + count))) =
    ap (lines g on 0) all ∙ lines-append g on 0 first (count + (height - (first + count)))
    ∙ (let e : 0 + first ≡ first = omega arith in
    ap (λ f. lines g on 0 first ++ lines g on f (count + (height - (first + count)))) e)
    ∙ ap (λ l. lines g on 0 first ++ l) (lines-append g on first count (height - (first + count))) in
    let before : drop (first * (g.width + 1)) (lines g on 0 height) ≡ lines g on first count ++ lines g on (first + count) (height - (first + count)) =
    ap₂ (λ n l. drop n l) (sym (length-lines g on 0 first)) parts
    ∙ drop-append_seam (lines g on 0 first) _ in
    ap₂ (λ n l. take n l) (sym (length-lines g on first count)) before
    ∙ take-append_seam (lines g on first count) _

-- ---- rows of a ground, and what opening its doors makes of them

pub map-each : (f h : ℕ → ℕ) → ((n : ℕ) → f n ≡ h n) → (xs : List ℕ) → map f xs ≡ map h xs
map-each f h same [] = refl
map-each f h same (x ∷ xs) = ap₂ (λ y ys. y ∷ ys) (same x) (map-each f h same xs)

pub map-after : (f h : ℕ → ℕ) (xs : List ℕ) → map f (map h xs) ≡ map (λ n. f (h n)) xs
map-after f h [] = refl
map-after f h (x ∷ xs) = ap (λ ys. f (h x) ∷ ys) (map-after f h xs)

pub map-same : (f : ℕ → ℕ) → ((n : ℕ) → f n ≡ n) → (xs : List ℕ) → map f xs ≡ xs
map-same f same [] = refl
map-same f same (x ∷ xs) = ap₂ (λ y ys. y ∷ ys) (same x) (map-same f same xs)

-- what a cell is drawn as where nobody and no item is
pub glyph-emptied : (g : Grid) (on : List Bool) (p : Point)
    → glyph (emptied g) on p ≡ glyph_of (cell_at g p) (base_glyph on (cell_at g p))
glyph-emptied g on p =
    ap (λ b. glyph_of (cell_at g p) (content_glyph None b (base_glyph on (cell_at g p)))) (get_or_past [] (index_of (emptied g) p) false (omega arith))

off : (a : ℕ) → is_on no_signals a ≡ false
off a = elim (cases_lt a 26) [
  | inl letter ↦ get_or-replicate 26 a false false letter
  | inr none ↦ get_or_past no_signals a false none
]

opened-base : (on : List Bool) (cell : Cell) → IsPlaced cell
    → opened on (glyph_of cell (base_glyph no_signals cell)) ≡ glyph_of cell (base_glyph on cell)
opened-base on Wall h = refl
opened-base on Floor h = refl
opened-base on (Door a) h =
    let e : (97 + a) - 97 ≡ a = omega arith in
    rw (off a, le-leb 97 (97 + a) (omega arith), e) refl
opened-base on (Spot p) h = rw (le-ltb 96 (48 + p) (omega (arith, h))) refl

placed_at : (g : Grid) → All IsPlaced g.cells → (p : Point) → IsPlaced (cell_at g p)
placed_at g placed p = elim (cases_lt (index_of g p) (length g.cells)) [
  | inl within ↦ placed (index_of g p) Wall within
  | inr past ↦ subst IsPlaced (sym (get_or_past g.cells (index_of g p) Wall past)) tt
]

module _ (g : Grid) (placed : All IsPlaced g.cells) (on : List Bool) where
  opened-glyph : (p : Point) → opened on (glyph (emptied g) no_signals p) ≡ glyph (emptied g) on p
  opened-glyph p = ap (opened on) (glyph-emptied g no_signals p)
      ∙ opened-base on (cell_at g p) (placed_at g placed p) ∙ sym (glyph-emptied g on p)

  opened-line : (y : ℕ) → map (opened on) (line (emptied g) no_signals y) ≡ line (emptied g) on y
  opened-line y = map-append (opened on) (row_glyphs (emptied g) no_signals y) (10 ∷ [])
      ∙ ap (λ l. l ++ 10 ∷ []) (map-after (opened on) (λ x. glyph (emptied g) no_signals (point x y)) (count_up 0 g.width)
      ∙ map-each (λ x. opened on (glyph (emptied g) no_signals (point x y))) (λ x. glyph (emptied g) on (point x y))
      (λ x. opened-glyph (point x y)) (count_up 0 g.width))

  pub opened-lines : (first n : ℕ) → map (opened on) (lines (emptied g) no_signals first n) ≡ lines (emptied g) on first n
  opened-lines first zero = ap (map (opened on)) (lines-none (emptied g) no_signals first) ∙ sym (lines-none (emptied g) on first)
  opened-lines first (suc n) =
      ap (map (opened on)) (lines-next (emptied g) no_signals first n)
      ∙ map-append (opened on) (line (emptied g) no_signals first) (lines (emptied g) no_signals (first + 1) n)
      ∙ ap₂ (λ a b. a ++ b) (opened-line first) (opened-lines (first + 1) n)
      ∙ sym (lines-next (emptied g) on first n)

cell_of-placed : (c : ℕ) → IsPlaced (cell_of c)
cell_of-placed c = go (c == 35) (is_between 97 122 c) (is_between 48 57 c) refl
  where
    go : (wall door spot : Bool) → is_between 48 57 c ≡ spot
        → IsPlaced (if wall then Wall else (if door then Door (c - 97) else (if spot then Spot (c - 48) else Floor)))
    go true door spot e = tt
    go false true spot e = tt
    go false false true e = let most : c ≤ 57 = leb-true c 57 (and_parts (nat_le 48 c) (nat_le c 57) e).1 in omega (arith, most)
    go false false false e = tt

pub cells-placed : (marks : List ℕ) → All IsPlaced (map cell_of marks)
cells-placed marks = λ k d within. subst IsPlaced
    (sym (get_or-map cell_of marks k 35 d (omega (arith, within, length-map marks cell_of))))
    (cell_of-placed (get_or marks k 35))

-- ---- rows drawn over, one after another

-- what a vector holds after a write to all of its elements
pub written_back : (len : ℕ) (new old : List ℕ) → len ≡ length old → length new ≡ length old
    → take len (new ++ drop (length new) old) ≡ new
written_back len new old full same =
    ap (λ l. take len (new ++ l)) (drop_of_length-le old (omega (arith, same)))
    ∙ ap (take len) (append-nil new) ∙ take_all len new (omega (arith, full, same))

module _ (g : Grid) (on : List Bool) (first k count : ℕ) (rows : List ℕ) (left : k < count)
    (so_far : rows ≡ lines g on first k ++ lines (emptied g) on (first + k) (count - k)) where
  abbrev pub rest : List ℕ
  rest = lines (emptied g) on (first + (k + 1)) (count - (k + 1))

  ahead : lines (emptied g) on (first + k) (count - k) ≡ row_glyphs (emptied g) on (first + k) ++ (10 ∷ rest)
  ahead =
      let n : count - k ≡ suc (count - (k + 1)) = omega arith in
      let y : (first + k) + 1 ≡ first + (k + 1) = omega arith in
      ap (lines (emptied g) on (first + k)) n ∙ lines-next (emptied g) on (first + k) (count - (k + 1))
      ∙ append_assoc (row_glyphs (emptied g) on (first + k)) (10 ∷ []) (lines (emptied g) on ((first + k) + 1) (count - (k + 1)))
      ∙ ap (λ f. row_glyphs (emptied g) on (first + k) ++ (10 ∷ lines (emptied g) on f (count - (k + 1)))) y

  parts : rows ≡ lines g on first k ++ (row_glyphs (emptied g) on (first + k) ++ (10 ∷ rest))
  parts = so_far ∙ ap (λ l. lines g on first k ++ l) ahead

  behind : drop (k * (g.width + 1)) rows ≡ row_glyphs (emptied g) on (first + k) ++ (10 ∷ rest)
  behind = ap₂ (λ n l. drop n l) (sym (length-lines g on first k)) parts ∙ drop-append_seam (lines g on first k) _

  -- the row that comes next
  pub next_row : take g.width (drop (k * (g.width + 1)) rows) ≡ row_glyphs (emptied g) on (first + k)
  next_row = ap₂ (λ n l. take n l) (sym (length-row_glyphs (emptied g) on (first + k))) behind
      ∙ take-append_seam (row_glyphs (emptied g) on (first + k)) _

  pub one_row : (row : List ℕ) → row ≡ row_glyphs g on (first + k)
      → put_mid (k * (g.width + 1)) g.width rows row ≡ lines g on first (k + 1) ++ rest
  one_row row drawn =
      let front : take (k * (g.width + 1)) rows ≡ lines g on first k =
      ap₂ (λ n l. take n l) (sym (length-lines g on first k)) parts ∙ take-append_seam (lines g on first k) _ in
      let back : drop g.width (drop (k * (g.width + 1)) rows) ≡ 10 ∷ rest =
      ap₂ (λ n l. drop n l) (sym (length-row_glyphs (emptied g) on (first + k))) behind
      ∙ drop-append_seam (row_glyphs (emptied g) on (first + k)) _ in
      ap₂ (λ a b. a ++ (row ++ b)) front back
      ∙ ap (λ r. lines g on first k ++ (r ++ (10 ∷ rest))) drawn
      ∙ ap (λ l. lines g on first k ++ l) (sym (append_assoc (row_glyphs g on (first + k)) (10 ∷ []) rest))
      ∙ sym (append_assoc (lines g on first k) (line g on (first + k)) rest)
      ∙ ap (λ l. l ++ rest) (sym (lines-more g on first k))

  long : length (lines g on first (k + 1) ++ rest) ≡ length rows
  long =
      let n : count - k ≡ (count - (k + 1)) + 1 = omega arith in
      length-append (lines g on first (k + 1)) rest
      ∙ ap₂ (λ a b. a + b) (length-lines g on first (k + 1)) (length-lines (emptied g) on (first + (k + 1)) (count - (k + 1)))
      ∙ products k (count - (k + 1)) (g.width + 1)
      ∙ sym (ap length so_far ∙ length-append (lines g on first k) (lines (emptied g) on (first + k) (count - k))
      ∙ ap₂ (λ a b. a + b) (length-lines g on first k) (length-lines (emptied g) on (first + k) (count - k))
      ∙ ap (λ m. k * (g.width + 1) + m * (g.width + 1)) n)
    where
      products : (a b s : ℕ) → (a + 1) * s + b * s ≡ a * s + (b + 1) * s
      products a b s = omega arith

  -- the same for numbers and lists as code has them
  module _ (wide : ℕ) (across : wide ≡ g.width) (part : List ℕ) (same : part ≡ rows) where
    inner : (k * (wide + 1) + wide) - k * (wide + 1) ≡ g.width
    inner = omega (arith, across)

    pub row_inside : k * (wide + 1) + wide ≤ length part
    row_inside =
        let n : count - k ≡ (count - (k + 1)) + 1 = omega arith in
        let all : length part ≡ k * (g.width + 1) + ((count - (k + 1)) + 1) * (g.width + 1) =
        ap length (same ∙ so_far) ∙ length-append (lines g on first k) (lines (emptied g) on (first + k) (count - k))
        ∙ ap₂ (λ a b. a + b) (length-lines g on first k) (length-lines (emptied g) on (first + k) (count - k))
        ∙ ap (λ m. k * (g.width + 1) + m * (g.width + 1)) n in
        rw across (omega (arith, all))

    pub row_read : take ((k * (wide + 1) + wide) - k * (wide + 1)) (drop (k * (wide + 1)) part) ≡ row_glyphs (emptied g) on (first + k)
    row_read = ap₂ (λ n m. take n (drop m part)) inner (ap (λ n. k * (n + 1)) across)
        ∙ ap (λ l. take g.width (drop (k * (g.width + 1)) l)) same ∙ next_row

    abbrev pub with_row : List ℕ → List ℕ
    with_row row = put_mid (k * (wide + 1)) ((k * (wide + 1) + wide) - k * (wide + 1)) part row

    pub row_written : (len : ℕ) → len ≡ length rows → (row : List ℕ) → row ≡ row_glyphs g on (first + k)
        → take len (with_row row ++ drop (length (with_row row)) rows) ≡ lines g on first (k + 1) ++ rest
    row_written len full row drawn =
        let here : with_row row ≡ lines g on first (k + 1) ++ rest =
        ap₂ (λ m n. put_mid m n part row) (ap (λ n. k * (n + 1)) across) inner
        ∙ ap (λ l. put_mid (k * (g.width + 1)) g.width l row) same ∙ one_row row drawn in
        ap (λ l. take len (l ++ drop (length l) rows)) here ∙ written_back len (lines g on first (k + 1) ++ rest) rows full long

-- ---- doors opened one signal after another

-- a character of the text where the signals below k are as given, and all others off
abbrev pub opened_below : ℕ → List Bool → ℕ → ℕ
opened_below k on c = if nat_le 97 c && nat_lt (c - 97) k && is_on on (c - 97) then 47 else c

pub opened_below-none : (on : List Bool) (c : ℕ) → opened_below 0 on c ≡ c
opened_below-none on c = rw (le-ltb (c - 97) 0 (omega arith)) (both (nat_le 97 c))
  where
    both : (b : Bool) → (if b && false && is_on on (c - 97) then 47 else c) ≡ c
    both true = refl
    both false = refl

both_off : (b : Bool) (c : ℕ) → (if b && false then 47 else c) ≡ c
both_off true c = refl
both_off false c = refl

module _ (on : List Bool) (k c : ℕ) where
  -- the doors of one more signal
  pub opened_below-more : is_on on k ≡ true
      → (if opened_below k on c == 97 + k then 47 else opened_below k on c) ≡ opened_below (k + 1) on c
  opened_below-more shows = elim (cases_lt 96 c) [
    | inl high ↦ elim (cases_lt (c - 97) k) [
      | inl before ↦ rw (lt-ltb 96 c high, lt-ltb (c - 97) k before, lt-ltb (c - 97) (k + 1) (omega arith))
          (either (is_on on (c - 97)) (ne_eqb c (97 + k) (λ e. omega (arith, e, before, high))))
      | inr after ↦ elim (cases_eq (c - 97) k) [
        | inl same ↦ rw (
          lt-ltb 96 c high,
          le-ltb (c - 97) k after,
          lt-ltb (c - 97) (k + 1) (omega (arith, same)),
          ap (is_on on) same ∙ shows,
          eq-eqb c (97 + k) (omega (arith, same, high)),
        ) refl
        | inr other ↦ rw (
          lt-ltb 96 c high,
          le-ltb (c - 97) k after,
          le-ltb (c - 97) (k + 1) (omega (arith, other, after)),
          ne_eqb c (97 + k) (λ e. other (omega (arith, e, high))),
        ) refl
      ]
    ]
    | inr low ↦ rw (le-ltb 96 c low, ne_eqb c (97 + k) (λ e. omega (arith, e, low))) refl
  ]
    where
      always : (b : Bool) (n : ℕ) → (if b then n else n) ≡ n
      always true n = refl
      always false n = refl

      either : (r : Bool) → (c == 97 + k) ≡ false
          → (if (if r then 47 else c) == 97 + k then 47 else (if r then 47 else c)) ≡ (if r then 47 else c)
      either true e = always (47 == 97 + k) 47
      either false e = rw e refl

  -- a signal that is off opens none
  pub opened_below-off : is_on on k ≡ false → opened_below k on c ≡ opened_below (k + 1) on c
  opened_below-off off = elim (cases_lt (c - 97) k) [
    | inl before ↦ rw (lt-ltb (c - 97) k before, lt-ltb (c - 97) (k + 1) (omega arith)) refl
    | inr after ↦ elim (cases_eq (c - 97) k) [
      | inl same ↦ rw (le-ltb (c - 97) k after, lt-ltb (c - 97) (k + 1) (omega (arith, same)), ap (is_on on) same ∙ off)
          (none_on (nat_le 97 c))
      | inr other ↦ rw (le-ltb (c - 97) k after, le-ltb (c - 97) (k + 1) (omega (arith, other, after))) refl
    ]
  ]
    where
      none_on : (b : Bool) → (if b && false && false then 47 else c) ≡ (if b && true && false then 47 else c)
      none_on true = refl
      none_on false = refl

-- there are 26 signals
pub opened_below-all : (on : List Bool) (c : ℕ) → length on ≡ 26 → opened_below 26 on c ≡ opened on c
opened_below-all on c all = elim (cases_lt (c - 97) 26) [
  | inl letter ↦ rw (lt-ltb (c - 97) 26 letter) (with_true (nat_le 97 c) (is_on on (c - 97)))
  | inr none ↦ rw (le-ltb (c - 97) 26 none, get_or_past on (c - 97) false (omega (arith, all, none))) (without (nat_le 97 c))
]
  where
    with_true : (b d : Bool) → (if b && true && d then 47 else c) ≡ (if b && d then 47 else c)
    with_true true d = refl
    with_true false d = refl

    without : (b : Bool) → (if b && false && false then 47 else c) ≡ (if b && false then 47 else c)
    without true = refl
    without false = refl
