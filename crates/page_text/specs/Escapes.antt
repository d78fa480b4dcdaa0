-- How texts are put into a page.
use Rattle.std.specs.Prelude.{ℕ, ◌==◌, if◌then◌else◌, List, [], ◌∷◌, codes}
use Rattle.std.specs.List.{flat_map}

-- 60 `<`
abbrev pub escaped_byte : ℕ → List ℕ
escaped_byte c = if c == 60 then codes "\\u003c" else c ∷ []

abbrev pub escaped : List ℕ → List ℕ
escaped text = flat_map escaped_byte text
