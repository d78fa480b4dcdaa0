-- A line of changes, as the page reads it, byte for byte.
use Rattle.std.specs.Prelude.{ℕ, ◌≢◌, ◌<◌, ◌+◌, ◌-◌, ◌*◌, ◌^◌, ◌==◌, if◌then◌else◌, List, [], ◌∷◌, Option, Some, None}
use Rattle.page_text.specs.declared.byte_change.ByteChange.{ByteChange}

abbrev pub and_more : ByteChange → List ByteChange × List ℕ → List ByteChange × List ℕ
and_more change read = (change ∷ read.0, read.1)

-- the changes up to a line feed (10), and what is behind it; a change that is begun has its glyph and its place so far, which ends
-- at a comma (44)
unfoldable pub read : Option (ℕ × ℕ) → List ℕ → List ByteChange × List ℕ
read begun [] = ([], [])
read None (c ∷ text) = if c == 10 then ([], text) else read (Some (c, 0)) text
read (Some begun) (c ∷ text) =
    if c == 44 then and_more (record { place = begun.1; glyph = begun.0 }) (read None text) else read (Some (begun.0, 10 * begun.1 + (c - 48))) text

-- a change that can be told from the end of its line
abbrev pub IsReadable : ByteChange → Type 0
IsReadable change = (change.glyph ≢ 10) × (change.place < 2 ^ 64)
