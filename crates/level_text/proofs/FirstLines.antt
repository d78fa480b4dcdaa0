-- The first line of some bytes.
use Rattle.std.proofs.Common.{◌≡◌, ◌∙◌, ℕ, ◌<◌, false, List, [], ◌∷◌, ◌++◌, length, refl, ap, sym, arith, eqb, All}
use Rattle.std.specs.List.{AllByRecursion}
use Rattle.std.proofs.lemmas.List.Elements.{recursion_from_All}
use Rattle.level_text.specs.Scripts.{lines_of}

lines_at : (xs ys : List ℕ) → AllByRecursion (λ b. eqb b 10 ≡ false) xs → lines_of (xs ++ 10 ∷ ys) ≡ xs ∷ lines_of ys
lines_at [] ys h = refl
lines_at (x ∷ xs) ys h = rw (lines_at xs ys h.1, h.0) refl

lines_last : (x : ℕ) (xs : List ℕ) → AllByRecursion (λ b. eqb b 10 ≡ false) (x ∷ xs) → lines_of (x ∷ xs) ≡ (x ∷ xs) ∷ []
lines_last x [] h = rw h.0 refl
lines_last x (y ∷ ys) h = rw (lines_last y ys h.1, h.0) refl

-- a line feed ends the first line
pub first_line_ends : (bytes xs ys : List ℕ) → bytes ≡ xs ++ 10 ∷ ys → All (λ b. eqb b 10 ≡ false) xs → lines_of bytes ≡ xs ∷ lines_of ys
first_line_ends bytes xs ys e h = ap lines_of e ∙ lines_at xs ys (recursion_from_All _ xs h)

-- with no line feed the bytes are one line
pub one_line : (bytes rest : List ℕ) → 0 < length bytes → All (λ b. eqb b 10 ≡ false) bytes → rest ≡ [] → lines_of bytes ≡ bytes ∷ lines_of rest
one_line [] rest some h e = absurd (omega arith)
one_line (x ∷ xs) rest some h e = lines_last x xs (recursion_from_All _ (x ∷ xs) h) ∙ ap (λ r. (x ∷ xs) ∷ lines_of r) (sym e)
