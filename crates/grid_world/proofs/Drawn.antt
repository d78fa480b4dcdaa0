-- The glyphs of a cell and of a row.
use Rattle.std.proofs.Common.{◌*◌, refl, get_or-take, get_or-drop, drop, ◌-◌, ◌∙◌, ap, ap₂, map, take, length, get_or, ◌+◌, ◌<◌, ◌≤◌, arith, sym, length-take, ◌≡◌, ℕ, Bool, true, false, ◌&&◌, if◌then◌else◌, List, [], Option, Some, None}
use Rattle.std.proofs.lemmas.Grind.{same_number_lists}
use Rattle.std.proofs.lemmas.List.{take_all}
use Rattle.grid_world.specs.declared.cell.Agent.{Agent}
use Rattle.grid_world.specs.declared.cell.Cell.{Cell}
use Rattle.grid_world.specs.declared.cell.Cell.TheVariants.{Wall, Floor, Door, Spot}
use Rattle.grid_world.specs.Grid.{Grid, Point, agent_on, cell_at, has_item, is_on_map}
use Rattle.grid_world.specs.Ground.{emptied, furnished}
use Rattle.grid_world.specs.Glyphs.{base_glyph, content_glyph, glyph, glyph_of}
use Rattle.grid_world.specs.Map.{count_up}
use Rattle.grid_world.specs.World.{point, row_glyphs, IsWorld}
use Rattle.grid_world.proofs.CountUp.{get_or-map-count_up, length-map-count_up}
use Rattle.grid_world.proofs.Lined.{glyph-emptied}

-- the glyph of a cell that is on the map
pub glyph-on_map : (g : Grid) (signals : List Bool) (p : Point) (cell : Cell) (agent : Option ℕ) (item : Bool)
    → Some cell ≡ (if is_on_map g p then Some (cell_at g p) else None) → agent ≡ agent_on g p
    → item ≡ (is_on_map g p && has_item g p)
    → Some (glyph_of cell (content_glyph agent item (base_glyph signals cell)))
    ≡ (if is_on_map g p then Some (glyph g signals p) else None)
glyph-on_map g signals p cell agent item found stands lies = at_test (is_on_map g p) found lies
  where
    at_test : (b : Bool) → Some cell ≡ (if b then Some (cell_at g p) else None) → item ≡ (b && has_item g p)
        → Some (glyph_of cell (content_glyph agent item (base_glyph signals cell)))
        ≡ (if b then Some (glyph g signals p) else None)
    at_test true e lies = let same : cell ≡ cell_at g p = cc in rw (same, stands, lies)
    at_test false e lies = absurd (cc)

-- a row of which each glyph is right
pub row_glyphs-from_each : (g : Grid) (signals : List Bool) (y : ℕ) (row : List ℕ) → g.width ≤ length row
    → ((k : ℕ) → k < g.width → get_or row k 0 ≡ glyph g signals (point k y))
    → take g.width row ≡ row_glyphs g signals y
row_glyphs-from_each g signals y row long each =
    let f : ℕ → ℕ = λ x. glyph g signals (point x y) in
    let taken = length-take g.width row in
    same_number_lists (take g.width row) (map f (count_up 0 g.width))
    (omega (arith, taken, length-map-count_up f 0 g.width))
    (λ k within. let below : k < g.width = omega (arith, taken) in
    let zero_more : 0 + k ≡ k = omega arith in
    get_or-take g.width row k 0 below ∙ each k below
    ∙ sym (get_or-map-count_up f 0 g.width k 0 below ∙ ap f zero_more))

-- a world with these agents in place of its own
abbrev pub with_crew : Grid → List Agent → Grid
with_crew g crew = furnished g g.items crew

-- an item lies on no wall
has_item-Wall : (g : Grid) → IsWorld g → (p : Point) → cell_at g p ≡ Wall → has_item g p ≡ false
has_item-Wall g world p wall = go (has_item g p) refl
  where
    go : (b : Bool) → has_item g p ≡ b → b ≡ false
    go false e = refl
    go true e = absurd (world.items_off_walls p e wall)

-- a cell drawn over by its item
glyph-drawn_over : (signals : List Bool) (cell : Cell) (item : Bool) → (cell ≡ Wall → item ≡ false)
    → (if item then 42 else glyph_of cell (base_glyph signals cell))
    ≡ glyph_of cell (content_glyph None item (base_glyph signals cell))
glyph-drawn_over signals Wall item no_item = rw (no_item refl) refl
glyph-drawn_over signals Floor true _ = refl
glyph-drawn_over signals Floor false _ = refl
glyph-drawn_over signals (Door a) true _ = refl
glyph-drawn_over signals (Door a) false _ = refl
glyph-drawn_over signals (Spot p) true _ = refl
glyph-drawn_over signals (Spot p) false _ = refl

-- the cells of row y are cells of the map
pub row_within : (w h y : ℕ) → y < h → y * w + w ≤ w * h
row_within w h y inside = grind arith

-- a cell of a part of a table
pub part_of_row : (items : List Bool) (start wide x : ℕ) → x < wide
    → get_or (take ((start + wide) - start) (drop start items)) x false ≡ get_or items (start + x) false
part_of_row items start wide x column =
    get_or-take ((start + wide) - start) (drop start items) x false (omega (arith, column)) ∙ get_or-drop start items x false

-- a row of the ground drawn over by its items
pub row_glyphs-drawn_over : (g : Grid) → IsWorld g → (signals : List Bool) (y : ℕ) (items : List Bool)
    → ((x : ℕ) → x < g.width → get_or items x false ≡ has_item g (point x y))
    → (ground row : List ℕ) → ground ≡ row_glyphs (emptied g) signals y → length row ≡ g.width
    → ((x : ℕ) → x < g.width → get_or row x 0 ≡ (if get_or items x false then 42 else get_or ground x 0))
    → row ≡ row_glyphs (with_crew g []) signals y
row_glyphs-drawn_over g world signals y items lie ground row bare long each =
    sym (take_all g.width row (omega (arith, long)))
    ∙ row_glyphs-from_each (with_crew g []) signals y row (omega (arith, long)) (λ x column.
    let zero_more : 0 + x ≡ x = omega arith in
    let shown : get_or ground x 0 ≡ glyph_of (cell_at g (point x y)) (base_glyph signals (cell_at g (point x y))) =
    ap (λ l. get_or l x 0) bare
    ∙ get_or-map-count_up (λ k. glyph (emptied g) signals (point k y)) 0 g.width x 0 column
    ∙ ap (λ k. glyph (emptied g) signals (point k y)) zero_more ∙ glyph-emptied g signals (point x y) in
    each x column
    ∙ ap₂ (λ item base. if item then 42 else base) (lie x column) shown
    ∙ glyph-drawn_over signals (cell_at g (point x y)) (has_item g (point x y)) (has_item-Wall g world (point x y)))
