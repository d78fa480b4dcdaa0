-- Frames in a row.
use Rattle.std.specs.Prelude.{ℕ, ◌≡◌, ◌<◌, List, [], ◌∷◌, length, take, Option, Some, None, slice_index}
use Rattle.stepping.specs.Played.{Played, bits, IsRefused, IsStepped}

-- a frame with the signals of each mask, one after the other
abbrev pub AreSteps : List ℕ → Played → Played → Type 0
AreSteps [] before after = after ≡ before
AreSteps (mask ∷ masks) before after = (between : Played) × IsStepped (bits 26 mask) before between × AreSteps masks between after

-- so many of the frames were stepped, and the next one was not
pub record IsCutShort (count : ℕ) (masks : List ℕ) (before after : Played) : Type 0 where
  pub within : count < length masks
  pub last : Played
  pub steps : AreSteps (take count masks) before last
  pub refused : IsRefused (bits 26 (slice_index masks count)) last after

-- a game was held, and is on by a frame for each mask
abbrev pub IsRun : List ℕ → Option Played → Option Played → Type 0
IsRun masks (Some before) (Some after) = AreSteps masks before after
IsRun masks before after = ⊥

-- no game was held, or it is on by so many frames, and the next one was refused
abbrev pub IsRunCutShort : ℕ → List ℕ → Option Played → Option Played → Type 0
IsRunCutShort count masks None None = count ≡ 0
IsRunCutShort count masks (Some before) (Some after) = IsCutShort count masks before after
IsRunCutShort count masks before after = ⊥
