-- A script of what was handed in to a handle's game.
use Rattle.std.specs.Prelude.{ℕ, ◌≡◌, ◌<◌, ◌≤◌, if◌then◌else◌, ◌+◌, ◌++◌, List, ◌∷◌, Any, Option, IsSomeAnd, Ok, codes, decimal}
use Rattle.std.specs.List.{flat_map}
use Rattle.game_rules.specs.declared.change.Change.{Change}
use Rattle.level_text.specs.Scripts.{script_of}
use Rattle.stepping.specs.Played.{Played, changes_so_far}
use Rattle.btworld_c.specs.Buffers.{IsFilled, IsShort}

-- ---- the text

abbrev pub change_text : Change → List ℕ
change_text c = decimal c.frame ++ (if c.on then codes " on " else codes " off ") ++ (97 + c.signal) ∷ codes "\n"

abbrev pub changes_text : List Change → List ℕ
changes_text changes = flat_map change_text changes

-- a change that a script can name
pub record IsNameable (c : Change) : Type 0 where
  pub some : 0 < c.frame
  pub few : c.frame ≤ 9999
  pub small : c.signal < 26

-- one of them is of a frame that no script can name
abbrev pub HasLate : List Change → Type 0
HasLate changes = Any (λ c. 9999 < c.frame) changes

-- ---- the held game's

-- it spells the changes so far
abbrev pub SpellsSoFar : Played → List ℕ → Type 0
SpellsSoFar p text = script_of text ≡ Ok (changes_so_far p)

-- such a text stands at the start of a buffer, which is kept behind it
abbrev pub IsScript : Option Played → ℕ → (old new : List ℕ) → Type 0
IsScript held size old new = IsSomeAnd held (λ p. (text : List ℕ) × SpellsSoFar p text × IsFilled text size old new)

-- such a text is so long, and longer than a buffer
abbrev pub IsScriptTooLong : Option Played → ℕ → List ℕ → Type 0
IsScriptTooLong held size buffer = IsSomeAnd held (λ p. (text : List ℕ) × SpellsSoFar p text × IsShort text size buffer)

abbrev pub IsTooLate : Option Played → Type 0
IsTooLate held = IsSomeAnd held (λ p. HasLate (changes_so_far p))
