-- The cells of a band, as drawn.
use Rattle.std.specs.Prelude.{ℕ, ◌+◌, ◌*◌, Bool, ◌&&◌, nat_lt, if◌then◌else◌, List, Option, Some, None}
use Rattle.grid_world.specs.Grid.{Grid}
use Rattle.grid_world.specs.Glyphs.{glyph}
use Rattle.draw_list.specs.Bands.{band_height}
use Rattle.draw_list.specs.declared.item.DrawItem.{DrawItem}

abbrev pub item_at : Grid → List Bool → (x y : ℕ) → DrawItem
item_at w on x y = record { x = x; y = y; glyph = glyph w on (record { x = x; y = y }) }

-- the cell in column x of a row of band b, counted from the band's top
abbrev pub item_in : Grid → List Bool → (b x row : ℕ) → Option DrawItem
item_in w on b x row = if nat_lt x w.width && nat_lt row (band_height w.height b) then Some (item_at w on x (8 * b + row)) else None
