-- What is written to a caller's buffer.
use Rattle.std.specs.Prelude.{ℕ, ◌≡◌, ◌<◌, ◌++◌, List, length, drop}

-- items stand at the start of a buffer, which is kept behind them, and their number is told
abbrev pub IsFilled : {A : Type 0} → List A → ℕ → (old new : List A) → Type 0
IsFilled items size old new = (size ≡ length items) × (new ≡ items ++ drop size old)

-- the number of items is told, and a buffer is shorter
abbrev pub IsShort : {A : Type 0} → List A → ℕ → List A → Type 0
IsShort items size buffer = (size ≡ length items) × (length buffer < size)
