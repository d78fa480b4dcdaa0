-- The rows of frames: their bytes, and where their line feeds stand.
use Rattle.std.proofs.Common.{◌≡◌, ◌≢◌, ◌+◌, ◌*◌, ◌∙◌, ◌==◌, ℕ, zero, suc, Bool, true, false, if◌then◌else◌, List, [], ◌∷◌, ◌++◌, map, length, Option, Some, None, refl, sym, ap, ap₂, subst, arith, ⊎_elim}
use Rattle.std.specs.List.{All}
use Rattle.std.proofs.lemmas.Bool.{ne_eqb, cases_lt}
use Rattle.std.proofs.lemmas.List.{map-append, get_or_past}
use Rattle.std.proofs.lemmas.List.Elements.{All-nil, All-cons, All-append, All-get_or}
use Rattle.grid_world.specs.declared.cell.Cell.{Cell}
use Rattle.grid_world.specs.declared.cell.Cell.TheVariants.{Wall, Floor, Door, Spot}
use Rattle.grid_world.specs.Grid.{Grid, Point, agent_on, cell_at, has_item, index_of}
use Rattle.grid_world.specs.Glyphs.{base_glyph, content_glyph, glyph, glyph_of}
use Rattle.grid_world.specs.Map.{count_up}
use Rattle.grid_world.specs.Open.{is_on}
use Rattle.grid_world.specs.Rows.{IsPlaced, line, lines}
use Rattle.grid_world.specs.World.{point, row_glyphs}
use Rattle.grid_world.proofs.Lined.{length-lines, lines-next, lines-none}
use Rattle.game_rules.specs.Game.{Game, signals}
use Rattle.game_rules.specs.Play.{play}
use Rattle.game_rules.proofs.Ground.{play_ground}
use Rattle.page_text.specs.Films.{feeds_of}
use Rattle.page_text.specs.Frames.{IsPlayable, rows_at, size_of}
use Rattle.page_text.proofs.Plain.{ArePlain, IsPlain, plain}

-- ---- glyphs

by_open : (opened : Bool) (a : ℕ) → IsPlain (if opened then 47 else 97 + a)
by_open true a = plain 47 (omega arith) (λ e. omega (arith, e))
by_open false a = plain (97 + a) (omega arith) (λ e. omega (arith, e))

base_plain : (on : List Bool) (cell : Cell) → IsPlaced cell → IsPlain (base_glyph on cell)
base_plain on Wall is = plain 35 (omega arith) (λ e. omega (arith, e))
base_plain on Floor is = plain 46 (omega arith) (λ e. omega (arith, e))
base_plain on (Door a) is = by_open (is_on on a) a
base_plain on (Spot p) is = plain (48 + p) (omega arith) (λ e. omega (arith, is, e))

content_plain : (agent : Option ℕ) (item : Bool) (base : ℕ) → IsPlain base → IsPlain (content_glyph agent item base)
content_plain (Some a) item base is = plain (65 + a) (omega arith) (λ e. omega (arith, e))
content_plain None true base is = plain 42 (omega arith) (λ e. omega (arith, e))
content_plain None false base is = is

of_plain : (cell : Cell) (content : ℕ) → IsPlain content → IsPlain (glyph_of cell content)
of_plain Wall content is = plain 35 (omega arith) (λ e. omega (arith, e))
of_plain Floor content is = is
of_plain (Door a) content is = is
of_plain (Spot p) content is = is

cell_placed : (g : Grid) (p : Point) → All IsPlaced g.cells → IsPlaced (cell_at g p)
cell_placed g p are =
    ⊎_elim (λ within. All-get_or IsPlaced g.cells (index_of g p) Wall within are)
    (λ past. subst IsPlaced (sym (get_or_past g.cells (index_of g p) Wall past)) tt) (cases_lt (index_of g p) (length g.cells))

glyph_plain : (g : Grid) (on : List Bool) (p : Point) → All IsPlaced g.cells → IsPlain (glyph g on p)
glyph_plain g on p are =
    of_plain (cell_at g p) (content_glyph (agent_on g p) (has_item g p) (base_glyph on (cell_at g p)))
    (content_plain (agent_on g p) (has_item g p) (base_glyph on (cell_at g p)) (base_plain on (cell_at g p) (cell_placed g p are)))

-- ---- rows

all_made : (f : ℕ → ℕ) (xs : List ℕ) → ((x : ℕ) → IsPlain (f x)) → ArePlain (map f xs)
all_made f [] each = All-nil IsPlain
all_made f (x ∷ xs) each = All-cons IsPlain (f x) (map f xs) (each x) (all_made f xs each)

row_plain : (g : Grid) (on : List Bool) (y : ℕ) → All IsPlaced g.cells → ArePlain (row_glyphs g on y)
row_plain g on y are = all_made (λ x. glyph g on (point x y)) (count_up 0 g.width) (λ x. glyph_plain g on (point x y) are)

-- no byte is a `<`
abbrev IsOther : ℕ → Type 0
IsOther c = c ≢ 60

pub lines_unmarked : (g : Grid) (on : List Bool) (first n : ℕ) → All IsPlaced g.cells → All IsOther (lines g on first n)
lines_unmarked g on first zero are = subst (All IsOther) (sym (lines-none g on first)) (All-nil IsOther)
lines_unmarked g on first (suc n) are =
    subst (All IsOther) (sym (lines-next g on first n))
    (All-append IsOther (line g on first) (lines g on (first + 1) n)
    (All-append IsOther (row_glyphs g on first) (10 ∷ []) (λ k c within. (row_plain g on first are k c within).no_mark)
    (All-cons IsOther 10 [] (λ e. omega (arith, e)) (All-nil IsOther)))
    (lines_unmarked g on (first + 1) n are))

-- ---- line feeds

both_false : (f h : ℕ → ℕ) (x : ℕ) → IsPlain (f x) → IsPlain (h x) → (f x == 10) ≡ (h x == 10)
both_false f h x a b = ne_eqb (f x) 10 a.no_feed ∙ sym (ne_eqb (h x) 10 b.no_feed)

same_row : (f h : ℕ → ℕ) (xs : List ℕ) → ((x : ℕ) → IsPlain (f x)) → ((x : ℕ) → IsPlain (h x)) → feeds_of (map f xs) ≡ feeds_of (map h xs)
same_row f h [] a b = refl
same_row f h (x ∷ xs) a b = ap₂ (λ c cs. c ∷ cs) (both_false f h x (a x) (b x)) (same_row f h xs a b)

module _ (v w : Grid) (on off : List Bool) (width : w.width ≡ v.width) (placed : All IsPlaced v.cells) (put : All IsPlaced w.cells) where
  same_glyphs : (y : ℕ) → feeds_of (row_glyphs w on y) ≡ feeds_of (row_glyphs v off y)
  same_glyphs y =
      ap (λ n. feeds_of (map (λ x. glyph w on (point x y)) (count_up 0 n))) width
      ∙ same_row (λ x. glyph w on (point x y)) (λ x. glyph v off (point x y)) (count_up 0 v.width) (λ x. glyph_plain w on (point x y) put) (λ x. glyph_plain v off (point x y) placed)

  same_line : (y : ℕ) → feeds_of (line w on y) ≡ feeds_of (line v off y)
  same_line y =
      map-append (λ c. c == 10) (row_glyphs w on y) (10 ∷ []) ∙ ap (λ l. l ++ feeds_of (10 ∷ [])) (same_glyphs y)
      ∙ sym (map-append (λ c. c == 10) (row_glyphs v off y) (10 ∷ []))

  same_lines : (first n : ℕ) → feeds_of (lines w on first n) ≡ feeds_of (lines v off first n)
  same_lines first zero = ap feeds_of (lines-none w on first ∙ sym (lines-none v off first))
  same_lines first (suc n) =
      ap feeds_of (lines-next w on first n)
      ∙ map-append (λ c. c == 10) (line w on first) (lines w on (first + 1) n)
      ∙ ap₂ (λ a b. a ++ b) (same_line first) (same_lines (first + 1) n)
      ∙ sym (map-append (λ c. c == 10) (line v off first) (lines v off (first + 1) n))
      ∙ ap feeds_of (sym (lines-next v off first n))

-- ---- the frames of a game

-- where the line feeds of all its frames' rows stand
abbrev pub feeds_for : Game → List Bool
feeds_for g = feeds_of (lines g.world [] 0 g.world.height)

pub cells_placed : (g : Game) (f : ℕ) → IsPlayable g → All IsPlaced (play g f).world.cells
cells_placed g f can = subst (All IsPlaced) (sym (play_ground g f).cells) can.placed

pub rows_fed : (g : Game) (f : ℕ) → IsPlayable g → feeds_of (rows_at g f) ≡ feeds_for g
rows_fed g f can =
    same_lines g.world (play g f).world (signals g.changes f) [] (play_ground g f).width can.placed (cells_placed g f can) 0 (play g f).world.height
    ∙ ap (λ n. feeds_of (lines g.world [] 0 n)) (play_ground g f).height

pub rows_unmarked : (g : Game) (f : ℕ) → IsPlayable g → All IsOther (rows_at g f)
rows_unmarked g f can = lines_unmarked (play g f).world (signals g.changes f) 0 (play g f).world.height (cells_placed g f can)

pub length-rows : (g : Game) (f : ℕ) → length (rows_at g f) ≡ size_of g
length-rows g f =
    length-lines (play g f).world (signals g.changes f) 0 (play g f).world.height
    ∙ ap₂ (λ h w. h * (w + 1)) (play_ground g f).height (play_ground g f).width
