-- Where bands are kept until their frame is printed. A frame's row has a place for each number of a band, with the frame whose
-- band lies there, if any; a table has so many rows, and frame f has the row f modulo their number.
use Rattle.std.specs.Prelude.{◌≡◌, ◌≢◌, ◌⊎◌, ◌%◌, ℕ, List, [], Option, Some, None, length, map, replicate, slice_index_or, slice_set}
use Rattle.grid_world.specs.Map.{count_up}
use Rattle.game_rules.specs.Game.{Game}
use Rattle.draw_list.specs.declared.band.Band.{Band}
use Rattle.frame_state.specs.Contents.{band_in, bands_in}

-- no bands
abbrev pub no_bands : (frames bands : ℕ) → List (List (Option ℕ))
no_bands frames bands = replicate frames (replicate bands None)

-- the row of a frame
abbrev pub row_of : List (List (Option ℕ)) → (frame : ℕ) → List (Option ℕ)
row_of table frame = slice_index_or table (frame % length table) []

-- with a frame's band at the place of its number, and all other places as they were; the same where there is no such place
abbrev pub with_place : List (Option ℕ) → (frame number : ℕ) → List (Option ℕ)
with_place row frame number = slice_set row number (Some frame)

abbrev pub with_band : List (List (Option ℕ)) → (frame number : ℕ) → List (List (Option ℕ))
with_band table frame number = slice_set table (frame % length table) (with_place (row_of table frame) frame number)

-- each row but a frame's own is as it was
abbrev pub IsElsewhereSame : (frame : ℕ) → (old new : List (List (Option ℕ))) → Type 0
IsElsewhereSame frame old new = (row : ℕ) → row ≢ frame % length old → slice_index_or new row [] ≡ slice_index_or old row []

-- so many bands of a frame are taken as it has, or up to a place where none of that frame lies
abbrev pub AreAllTaken : (row : List (Option ℕ)) → (frame bands taken : ℕ) → Type 0
AreAllTaken row frame bands taken = (taken ≡ bands) ⊎ (slice_index_or row taken None ≢ Some frame)

-- each band lies at the place of its number
abbrev pub AreAtTheirNumbers : (numbers : List (Option ℕ)) → Type 0
AreAtTheirNumbers numbers = (place number : ℕ) → slice_index_or numbers place None ≡ Some number → number ≡ place

-- the first bands of a frame, from the top
abbrev pub AreFirstBands : Game → (frame : ℕ) → List Band → Type 0
AreFirstBands g frame bands = bands ≡ map (band_in g frame) (count_up 0 (length bands))

-- all bands of a frame, from the top
abbrev pub AreAllBands : Game → (frame : ℕ) → List Band → Type 0
AreAllBands g frame bands = AreFirstBands g frame bands × (length bands ≡ bands_in g)
