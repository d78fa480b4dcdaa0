-- The cells of a band, in its text.
use Rattle.std.proofs.Common.{◌≡◌, ◌<◌, ◌≤◌, ℕ, suc, ◌+◌, ◌*◌, Bool, true, false, ◌&&◌, nat_lt, if◌then◌else◌, List, length, get_or, Option, Some, None, refl, ap, ◌∙◌, arith, ⊎_elim, inl, inr, ◌⊎◌}
use Rattle.std.proofs.lemmas.Bool.{and_from, cases_lt, lt-ltb, le-ltb}
use Rattle.std.proofs.lemmas.Nat.{mul-le}
use Rattle.grid_world.specs.Grid.{Grid}
use Rattle.grid_world.specs.Glyphs.{glyph}
use Rattle.draw_list.specs.declared.item.DrawItem.{DrawItem}
use Rattle.draw_list.specs.Bands.{band_height, band_text}
use Rattle.draw_list.specs.Items.{item_in}
use Rattle.draw_list.proofs.Joined.{glyph_in, length-band_text}

-- in which of the rows, of k each, an element stands
row_within : (k n row x : ℕ) → k * row + x < k * n → row < n
row_within k n row x h =
    ⊎_elim (λ within. within) (λ past. let more = mul-le k n k row (omega arith) past in absurd (omega (arith, h, more))) (cases_lt row n)

row_past : (k n row x : ℕ) → x < k → k * n ≤ k * row + x → n ≤ row
row_past k n row x c h =
    ⊎_elim (λ within. let more = mul-le k (suc row) k n (omega arith) (omega (arith, within)) in absurd (omega (arith, c, h, more))) (λ past. past) (cases_lt row n)

never : {X : Type 0} (a b : Bool) (s : Option X) → (a ≡ false) ⊎ (b ≡ false) → None ≡ (if a && b then s else None)
never false b s h = refl
never true false s h = refl
never true true s (inl e) = cc
never true true s (inr e) = cc

module _ (w : Grid) (on : List Bool) (b x row : ℕ) where
  pub outside : (w.width ≤ x) ⊎ (band_height w.height b ≤ row) → None ≡ item_in w on b x row
  outside h =
      never (nat_lt x w.width) (nat_lt row (band_height w.height b)) _
      (⊎_elim (λ c. inl (le-ltb x w.width c)) (λ r. inr (le-ltb row (band_height w.height b) r)) h)

  inside : (y g : ℕ) → x < w.width → row < band_height w.height b → y ≡ 8 * b + row → g ≡ glyph w on (record { x = x; y = 8 * b + row })
      → let made : DrawItem = record { x = x; y = y; glyph = g } in Some made ≡ item_in w on b x row
  inside y g c r e h =
      let both : (nat_lt x w.width && nat_lt row (band_height w.height b)) ≡ true =
      and_from (nat_lt x w.width) (nat_lt row (band_height w.height b)) (lt-ltb x w.width c) (lt-ltb row (band_height w.height b) r) in
      rw (both, e, h) refl

  module _ (rows : List ℕ) (is : rows ≡ band_text w on b) (at : ℕ) (place : at ≡ suc w.width * row + x) (c : x < w.width) where
    size : length rows ≡ suc w.width * band_height w.height b
    size = ap (λ (l : List ℕ). length l) is ∙ length-band_text w on b

    -- nothing stands there
    pub past_end : length rows ≤ at → None ≡ item_in w on b x row
    past_end past =
        let s = size in outside (inr (row_past (suc w.width) (band_height w.height b) row x (omega (arith, c)) (omega (arith, s, place, past))))

    -- a glyph stands there
    pub stands_there : (y g : ℕ) → at < length rows → y ≡ 8 * b + row → g ≡ get_or rows at g
        → let made : DrawItem = record { x = x; y = y; glyph = g } in Some made ≡ item_in w on b x row
    stands_there y g within e h =
        let s = size in
        let r = row_within (suc w.width) (band_height w.height b) row x (omega (arith, s, place, within)) in
        inside y g c r e (h ∙ ap (λ (l : List ℕ). get_or l at g) is ∙ ap (λ i. get_or (band_text w on b) i g) place ∙ glyph_in w on b row x g c r)
