-- What is told of an agent's tick in the next frame of a handle's game.
use Rattle.std.specs.Prelude.{ℕ, ◌≡◌, ◌<◌, ◌+◌, ◌^◌, List, length, Option, IsSomeAnd}
use Rattle.stepping.specs.Played.{Played, bits}
use Rattle.tick_text.specs.Text.{IsNextTickText}
use Rattle.btworld_c.specs.Buffers.{IsFilled, IsShort}

-- the text of an agent's tick in the next frame, if that has the signals of a mask; there are such an agent and such a frame
pub record IsTickOf (p : Played) (mask agent : ℕ) (text : List ℕ) : Type 0 where
  pub there : agent < length p.game.trees
  pub next : p.frame + 1 < 2 ^ 32
  pub tick : IsNextTickText p (bits 26 mask) agent text

-- it stands at the start of a buffer, which is kept behind it
abbrev pub IsTickText : Option Played → (mask agent size : ℕ) → (old new : List ℕ) → Type 0
IsTickText held mask agent size old new = IsSomeAnd held (λ p. (text : List ℕ) × IsTickOf p mask agent text × IsFilled text size old new)

-- it is so long, and longer than a buffer
abbrev pub IsTickTextTooLong : Option Played → (mask agent size : ℕ) → List ℕ → Type 0
IsTickTextTooLong held mask agent size buffer = IsSomeAnd held (λ p. (text : List ℕ) × IsTickOf p mask agent text × IsShort text size buffer)

-- no frame comes behind the held game's
abbrev pub IsAtLast : Option Played → Type 0
IsAtLast held = IsSomeAnd held (λ p. p.frame + 1 ≡ 2 ^ 32)
