-- What is compared of a handle's game with another machine's.
use Rattle.std.specs.Prelude.{ℕ, ◌≡◌, List, Option, IsSomeAnd}
use Rattle.stepping.specs.Played.{Played}
use Rattle.stepping.specs.LevelDigest.{level_digest_of}
use Rattle.stepping.specs.StateText.{state_text}
use Rattle.btworld_c.specs.Buffers.{IsFilled, IsShort}

abbrev pub IsLevelDigest : Option Played → ℕ → Type 0
IsLevelDigest held digest = IsSomeAnd held (λ p. digest ≡ level_digest_of p.game)

-- the held game's state stands at the start of a buffer, which is kept behind it
abbrev pub IsState : Option Played → ℕ → (old new : List ℕ) → Type 0
IsState held size old new = IsSomeAnd held (λ p. IsFilled (state_text p) size old new)

-- the text of the held game's state is so long, and longer than a buffer
abbrev pub IsStateTooLong : Option Played → ℕ → List ℕ → Type 0
IsStateTooLong held size buffer = IsSomeAnd held (λ p. IsShort (state_text p) size buffer)
