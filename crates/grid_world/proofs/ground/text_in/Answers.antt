use Rattle.std.proofs.Common.{map, ap, ap₂, ◌∙◌, sym, ◌≡◌, ◌<◌, ◌*◌, ◌+◌, ◌++◌, ◌∷◌, [], ℕ, arith, append-nil, append_assoc, false, None, length}
use Rattle.std.proofs.lemmas.List.{get_or_default, map-append}
use Rattle.grid_world.specs.declared.cell.Cell.TheVariants.{Wall}
use Rattle.grid_world.specs.Glyphs.{base_glyph, content_glyph, glyph, glyph_of}
use Rattle.grid_world.specs.Ground.{bare, no_signals}
use Rattle.grid_world.specs.Map.{count_up}
use Rattle.grid_world.specs.Rows.{lines, line}
use Rattle.grid_world.specs.World.{point, row_glyphs}
use Rattle.grid_world.proofs.Lined.{lines-none, lines-more, count_up-snoc, count_up-zero, glyph-emptied}
use Rattle.grid_world.proofs.ground.text_in.Goals as goal

pub rows-init : goal.rows-init
rows-init c = c.in_ok-text.ensures.items ∙ sym (lines-none (bare c.args.columns c.args.rows c.args.kinds.now) no_signals 0)

pub columns-init : goal.columns-init
columns-init c =
    let g = bare c.args.columns c.args.rows c.args.kinds.now in
    c.rows.invariant ∙ sym (append-nil (lines g no_signals 0 c.rows.y))
    ∙ ap (λ l. lines g no_signals 0 c.rows.y ++ map (λ x. glyph g no_signals (point x c.rows.y)) l) (sym (count_up-zero 0))

pub columns-preserved : goal.columns-preserved
columns-preserved c =
    let g = bare c.args.columns c.args.rows c.args.kinds.now in
    let x = c.columns.x in
    let y = c.rows.y in
    let done = lines g no_signals 0 y in
    let f : ℕ → ℕ = λ k. glyph g no_signals (point k y) in
    let i = y * c.args.columns + x in
    let within : i < length c.args.kinds.now = inside x y c.args.columns c.args.rows (length c.args.kinds.now) c.columns-test.true c.rows-test.true c.requires.all_cells in
    let cell = c.index-kinds-y.is ∙ get_or_default c.args.kinds.now i c.index-kinds-y.result Wall within in
    let zero_more : 0 + x ≡ x = omega arith in
    let drawn : c.glyph_of.result ≡ f (0 + x) = c.glyph_of.ensures
    ∙ ap₂ (λ s k. glyph_of k (content_glyph None false (base_glyph s k))) c.off-off.ensures cell
    ∙ sym (glyph-emptied g no_signals (point x y)) ∙ ap f (sym zero_more) in
    c.in_ok-push.ensures.items ∙ ap₂ (λ l k. l ++ k ∷ []) c.columns.invariant drawn
    ∙ append_assoc done (map f (count_up 0 x)) (f (0 + x) ∷ [])
    ∙ ap (λ l. done ++ l) (sym (ap (map f) (count_up-snoc 0 x) ∙ map-append f (count_up 0 x) ((0 + x) ∷ [])))
  where
    inside : (x y columns rows n : ℕ) → x < columns → y < rows → n ≡ columns * rows → y * columns + x < n
    inside x y columns rows n column row e = grind arith

pub rows-preserved : goal.rows-preserved
rows-preserved c =
    let g = bare c.args.columns c.args.rows c.args.kinds.now in
    let y = c.rows.y in
    let whole : c.columns.x ≡ c.args.columns = omega (arith, c.columns-test.false, c.columns.auto.x-end) in
    let zero_more : y ≡ 0 + y = omega arith in
    c.in_ok-push-2.ensures.items ∙ ap (λ l. l ++ 10 ∷ []) (c.columns.invariant
    ∙ ap (λ n. lines g no_signals 0 y ++ map (λ x. glyph g no_signals (point x y)) (count_up 0 n)) whole)
    ∙ append_assoc (lines g no_signals 0 y) (row_glyphs g no_signals y) (10 ∷ [])
    ∙ ap (λ r. lines g no_signals 0 y ++ line g no_signals r) zero_more
    ∙ sym (lines-more g no_signals 0 y)
