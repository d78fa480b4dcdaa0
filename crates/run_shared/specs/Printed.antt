-- What a run that failed has written.
use Rattle.std.specs.Prelude.{ℕ, ◌+◌, ◌<◌, ◌≤◌, List, Option, Result, Ok, Err, length, take}
use Rattle.std.specs.Io.KnownBytes.{Appends}
use Rattle.game_rules.specs.Game.{Game}
use Rattle.game_rules.specs.Text.{texts}
use Rattle.run_shared.specs.declared.fault.RunFault.{RunFault}

-- Known bytes grew by the first bytes of the text of n frames: so many that all of the first e frames are among them, and
-- e is the greatest such number.
pub record WrotePart (old new : Option (List ℕ)) (g : Game) (n e : ℕ) : Type 0 where
  pub bytes : ℕ
  pub appends : Appends old new (take bytes (texts g n))
  pub within : bytes ≤ length (texts g n)
  pub whole : length (texts g e) ≤ bytes
  pub at_most : e ≤ n
  pub no_more : e < n → bytes < length (texts g (e + 1))

-- how many whole frames are written, of n, by a printing that came to this
abbrev pub frames_of : {X : Type 0} → Result X RunFault → ℕ → ℕ
frames_of (Ok x) n = n
frames_of (Err e) n = e.frames
