-- Bands of a map: 8 rows each, numbered from 0 at the top; the last may have fewer.
use Rattle.std.specs.Prelude.{ℕ, suc, ◌-◌, ◌*◌, min, Bool, ◌==◌, ◌&&◌, nat_lt, if◌then◌else◌, List, [], ◌∷◌, length, map, Option, Some, None}
use Rattle.std.specs.List.{flat_map}
use Rattle.std.specs.Int.{div_ceil}
use Rattle.grid_world.specs.Grid.{Grid}
use Rattle.grid_world.specs.Map.{count_up}
use Rattle.game_rules.specs.Text.{row_text}
use Rattle.draw_list.specs.declared.band.Band.{Band}

abbrev pub band_count : ℕ → ℕ
band_count height = div_ceil height 8

-- how many rows band b of a map of this height has
abbrev pub band_height : (height b : ℕ) → ℕ
band_height height b = min 8 (height - 8 * b)

-- the rows of band b, drawn under these signals
abbrev pub band_text : Grid → List Bool → ℕ → List ℕ
band_text w on b = flat_map (row_text w on) (count_up (8 * b) (band_height w.height b))

abbrev pub band_of : Grid → List Bool → ℕ → Band
band_of w on b = record { number = b; width = w.width; rows = band_text w on b }

-- all bands of a map
abbrev pub bands_of : Grid → List Bool → List Band
bands_of w on = map (band_of w on) (count_up 0 (band_count w.height))

-- whether a band has the number and the size of the one at place k
abbrev pub stands_at : (width height k : ℕ) → Band → Bool
stands_at width height k b = (b.number == k) && (b.width == width) && (length b.rows == suc width * band_height height k)

-- the first place, from k on, whose band is missing, has another number or another size, or is one too many;
-- the list has the bands from place k on
abbrev pub gap_from : (width height k : ℕ) → List Band → Option ℕ
gap_from width height k [] = if nat_lt k (band_count height) then Some k else None
gap_from width height k (b ∷ bs) =
    if nat_lt k (band_count height) && stands_at width height k b then gap_from width height (suc k) bs else Some k

abbrev pub gap_of : Grid → List Band → Option ℕ
gap_of w bands = gap_from w.width w.height 0 bands
