-- What changed from one text to another of the same length.
use Rattle.std.specs.Prelude.{ℕ, zero, suc, ◌==◌, if◌then◌else◌, List, [], ◌∷◌, ◌++◌, codes, decimal}
use Rattle.std.specs.List.{flat_map}
use Rattle.page_text.specs.declared.byte_change.ByteChange.{ByteChange}

abbrev pub unless : (same : ℕ) → ℕ → ℕ → List ByteChange → List ByteChange
unless old new at changes = if new == old then changes else record { place = at; glyph = new } ∷ changes

-- the bytes of the new text that are others than in the old one; the lists stand behind this many bytes
abbrev pub changes_from : ℕ → (old new : List ℕ) → List ByteChange
changes_from at [] new = []
changes_from at (o ∷ old) [] = []
changes_from at (o ∷ old) (n ∷ new) = unless o n at (changes_from (suc at) old new)

-- a change as text: the glyph, its place and a comma
abbrev pub change_text : ByteChange → List ℕ
change_text change = change.glyph ∷ decimal change.place ++ codes ","

abbrev pub changes_text : List ByteChange → List ℕ
changes_text changes = flat_map change_text changes

-- a glyph is put into its place
abbrev pub put : (place glyph : ℕ) → List ℕ → List ℕ
put place glyph [] = []
put zero glyph (first ∷ text) = glyph ∷ text
put (suc place) glyph (first ∷ text) = first ∷ put place glyph text

-- what the changes make of a text, one after another
abbrev pub changed : List ℕ → List ByteChange → List ℕ
changed text [] = text
changed text (change ∷ changes) = changed (put change.place change.glyph text) changes
