-- What is told of a fault is never nothing.
use Rattle.std.proofs.Common.{◌≡◌, ◌+◌, ◌++◌, ℕ, List, inl, inr, refl, sym, ap, ◌∙◌, length, length-append, arith, codes}
use Rattle.std.specs.Prelude.{IsSome}
use Rattle.level_text.specs.Games.{spelled_game}
use Rattle.btworld_c.specs.Explained.{IsExplained}

has_a_line_feed : (place words : List ℕ) → length (place ++ codes "\n" ++ words) ≡ 0 → ⊥
has_a_line_feed place words none =
    let one : length (codes "\n") ≡ 1 = refl in
    omega (arith, none, one, length-append (place ++ codes "\n") words, length-append place (codes "\n"))

pub nothing_told : (level script text : List ℕ) → IsExplained level script text → length text ≡ 0 → IsSome (spelled_game level script)
nothing_told level script text (inl h) none = h.0
nothing_told level script text (inr h) none = absurd (has_a_line_feed _ _ (ap length (sym h.2) ∙ none))
