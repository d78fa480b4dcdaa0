-- The bands of a map, joined, are its rows, and have no gap.
use Rattle.std.proofs.Common.{◌≡◌, ◌<◌, ℕ, zero, suc, ◌+◌, ◌-◌, ◌*◌, min, Bool, true, false, ◌==◌, ◌&&◌, nat_lt, List, [], ◌∷◌, ◌++◌, length, get_or, map, None, Some, refl, sym, ap, ◌∙◌, arith, ⊎_elim, inl, inr, ◌⊎◌, append-nil}
use Rattle.std.specs.List.{flat_map}
use Rattle.std.proofs.lemmas.Bool.{and_from, eq-eqb, cases_lt, lt-ltb, le-ltb}
use Rattle.std.proofs.lemmas.List.{length-append, length-map, get_or_append_left}
use Rattle.std.proofs.lemmas.List.Concat.{flat_map-append}
use Rattle.std.proofs.lemmas.Grind.{div_ceil_times}
use Rattle.grid_world.specs.Grid.{Grid}
use Rattle.grid_world.specs.Map.{count_up}
use Rattle.grid_world.specs.Glyphs.{glyph}
use Rattle.grid_world.proofs.CountUp.{get_or-map-count_up, length-map-count_up}
use Rattle.game_rules.specs.Text.{row_text}
use Rattle.draw_list.specs.declared.band.Band.{Band}
use Rattle.draw_list.specs.Bands.{band_count, band_height, band_text, band_of, bands_of, stands_at, gap_from, gap_of}
use Rattle.draw_list.proofs.Counting.{count_up-zero, count_up-suc, count_up-append, length-count_up, length-flat_map-count_up, piece_at}

module _ (w : Grid) (on : List Bool) where
  -- rows in two parts; where the second is empty it may begin anywhere
  rows-join : (i m j r n : ℕ) → (j ≡ i + m) ⊎ (r ≡ 0) → n ≡ m + r → flat_map (row_text w on) (count_up i m) ++ flat_map (row_text w on) (count_up j r) ≡ flat_map (row_text w on) (count_up i n)
  rows-join i m j r n parts e =
      ⊎_elim
      (λ f. ap (λ k. flat_map (row_text w on) (count_up i m) ++ flat_map (row_text w on) (count_up k r)) f
      ∙ sym (flat_map-append (row_text w on) (count_up i m) (count_up (i + m) r))
      ∙ ap (flat_map (row_text w on)) (sym (count_up-append i m r) ∙ ap (count_up i) (sym e)))
      (λ z. ap (λ k. flat_map (row_text w on) (count_up i m) ++ flat_map (row_text w on) k) (ap (count_up j) z ∙ count_up-zero j)
      ∙ append-nil (flat_map (row_text w on) (count_up i m)) ∙ ap (λ k. flat_map (row_text w on) (count_up i k)) (let same : m ≡ n = omega (arith, z) in same))
      parts

  -- a band, and the rows that follow it
  next_rows : (b n : ℕ) → band_text w on b ++ flat_map (row_text w on) (count_up (8 * suc b) (min (8 * n) (w.height - 8 * suc b)))
      ≡ flat_map (row_text w on) (count_up (8 * b) (min (8 * suc n) (w.height - 8 * b)))
  next_rows b n =
      rows-join (8 * b) (band_height w.height b) (8 * suc b) (min (8 * n) (w.height - 8 * suc b)) (min (8 * suc n) (w.height - 8 * b))
      (⊎_elim (λ h. inr (omega (arith, h))) (λ h. inl (omega (arith, h))) (cases_lt (w.height - 8 * b) 8)) (omega arith)

  joined_from : (b n : ℕ) → flat_map (λ d. d.rows) (map (band_of w on) (count_up b n)) ≡ flat_map (row_text w on) (count_up (8 * b) (min (8 * n) (w.height - 8 * b)))
  joined_from b zero = let none : min (8 * 0) (w.height - 8 * b) ≡ 0 = omega arith in rw (none, count_up-zero (8 * b), count_up-zero b) refl
  joined_from b (suc n) = rw count_up-suc (ap (λ l. band_text w on b ++ l) (joined_from (suc b) n) ∙ next_rows b n)

  pub joined : flat_map (λ d. d.rows) (bands_of w on) ≡ flat_map (row_text w on) (count_up 0 w.height)
  joined =
      let some = div_ceil_times w.height 8 (omega arith) in
      let all : min (8 * band_count w.height) (w.height - 8 * 0) ≡ w.height = omega (arith, some.0) in
      joined_from 0 (band_count w.height) ∙ ap (λ n. flat_map (row_text w on) (count_up 0 n)) all

  length-row_text : (y : ℕ) → length (row_text w on y) ≡ suc w.width
  length-row_text y =
      let cells = map (λ x. glyph w on (record { x = x; y = y })) (count_up 0 w.width) in
      let n : length cells ≡ w.width = length-map (count_up 0 w.width) (λ x. glyph w on (record { x = x; y = y })) ∙ length-count_up 0 w.width in
      length-append cells (10 ∷ []) ∙ ap (λ k. k + 1) n ∙ omega arith

  pub length-band_text : (b : ℕ) → length (band_text w on b) ≡ suc w.width * band_height w.height b
  length-band_text b = length-flat_map-count_up (row_text w on) (suc w.width) (8 * b) (band_height w.height b) length-row_text

  -- the glyph of a cell of a band
  pub glyph_in : (b row x d : ℕ) → x < w.width → row < band_height w.height b
      → get_or (band_text w on b) (suc w.width * row + x) d ≡ glyph w on (record { x = x; y = 8 * b + row })
  glyph_in b row x d c r =
      let cell : ℕ → ℕ = λ k. glyph w on (record { x = k; y = 8 * b + row }) in
      let len = length-map-count_up cell 0 w.width in
      let same : 0 + x ≡ x = omega arith in
      piece_at (row_text w on) (suc w.width) (8 * b) (band_height w.height b) row x d length-row_text r (omega (arith, c))
      ∙ get_or_append_left (map cell (count_up 0 w.width)) (10 ∷ []) d x (omega (arith, c, len))
      ∙ get_or-map-count_up cell 0 w.width x d c ∙ ap cell same

  stands : (b : ℕ) → stands_at w.width w.height b (band_of w on b) ≡ true
  stands b =
      and_from ((b == b) && (w.width == w.width)) (length (band_text w on b) == suc w.width * band_height w.height b)
      (and_from (b == b) (w.width == w.width) (eq-eqb b b refl) (eq-eqb w.width w.width refl))
      (eq-eqb (length (band_text w on b)) (suc w.width * band_height w.height b) (length-band_text b))

  no_gap_from : (b n : ℕ) → b + n ≡ band_count w.height → gap_from w.width w.height b (map (band_of w on) (count_up b n)) ≡ None
  no_gap_from b zero e = let past : nat_lt b (band_count w.height) ≡ false = le-ltb b (band_count w.height) (omega arith) in rw (count_up-zero b, past) refl
  no_gap_from b (suc n) e =
      let fits : (nat_lt b (band_count w.height) && stands_at w.width w.height b (band_of w on b)) ≡ true =
      and_from (nat_lt b (band_count w.height)) (stands_at w.width w.height b (band_of w on b)) (lt-ltb b (band_count w.height) (omega arith)) (stands b) in
      rw (count_up-suc b n, fits) (no_gap_from (suc b) n (omega arith))

  pub no_gap : gap_of w (bands_of w on) ≡ None
  no_gap = no_gap_from 0 (band_count w.height) (omega arith)

  pub band_is : (b width : ℕ) (rows : List ℕ) → width ≡ w.width → rows ≡ band_text w on b → record { number = b; width = width; rows = rows } ≡ band_of w on b
  band_is b width rows e f = ap (λ (n : ℕ). let d : Band = record { number = b; width = n; rows = rows } in d) e ∙ ap (λ (r : List ℕ). let d : Band = record { number = b; width = w.width; rows = r } in d) f

  pub not_gap : (bands : List Band) (k : ℕ) → bands ≡ bands_of w on → Some k ≡ gap_of w bands → ⊥
  not_gap bands k e f = let g : Some k ≡ None = f ∙ ap (gap_of w) e ∙ no_gap in cc

  -- a text that was written in three steps
  pub written : (line agents t0 t1 t2 t3 : List ℕ) (bands : List Band) → t0 ≡ [] → t1 ≡ t0 ++ line → t2 ≡ t1 ++ flat_map (λ d. d.rows) bands → t3 ≡ t2 ++ agents
      → bands ≡ bands_of w on → t3 ≡ line ++ flat_map (row_text w on) (count_up 0 w.height) ++ agents
  written line agents t0 t1 t2 t3 bands a b c d e =
      d ∙ ap (λ l. l ++ agents) (c ∙ ap (λ l. l ++ flat_map (λ d. d.rows) bands) (b ∙ ap (λ l. l ++ line) a) ∙ ap (λ l. line ++ l) (ap (flat_map (λ d. d.rows)) e ∙ joined))
