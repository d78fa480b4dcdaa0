-- Changes give the new text.
use Rattle.std.proofs.Common.{◌≡◌, ℕ, suc, ◌+◌, Bool, true, false, ◌==◌, if◌then◌else◌, List, [], ◌∷◌, ◌++◌, length, refl, sym, ap, ◌∙◌, arith, eqb-true}
use Rattle.page_text.specs.declared.byte_change.ByteChange.{ByteChange}
use Rattle.page_text.specs.Changes.{changes_from, put, changed}

-- a place behind a front
put_behind : (front : List ℕ) (k glyph : ℕ) (text : List ℕ) → put (length front + k) glyph (front ++ text) ≡ front ++ put k glyph text
put_behind [] k glyph text = let e : 0 + k ≡ k = omega arith in ap (λ i. put i glyph text) e
put_behind (c ∷ front) k glyph text =
    let e : suc (length front) + k ≡ suc (length front + k) = omega arith in
    ap (λ i. put i glyph (c ∷ front ++ text)) e ∙ ap (λ l. c ∷ l) (put_behind front k glyph text)

put_here : (front : List ℕ) (at glyph : ℕ) (o : ℕ) (text : List ℕ) → at ≡ length front → put at glyph (front ++ o ∷ text) ≡ front ++ glyph ∷ text
put_here front at glyph o text e =
    let z : at ≡ length front + 0 = omega (arith, e) in
    ap (λ i. put i glyph (front ++ o ∷ text)) z ∙ put_behind front 0 glyph (o ∷ text)

shift : (front : List ℕ) (c : ℕ) (text : List ℕ) → (front ++ c ∷ []) ++ text ≡ front ++ c ∷ text
shift [] c text = refl
shift (d ∷ front) c text = ap (λ l. d ∷ l) (shift front c text)

length_more : (front : List ℕ) (c : ℕ) → length (front ++ c ∷ []) ≡ suc (length front)
length_more [] c = refl
length_more (d ∷ front) c = ap suc (length_more front c)

by_same : (front old new : List ℕ) (at o n : ℕ) (same : Bool) (changes : List ByteChange) → (n == o) ≡ same → at ≡ length front
    → changed (front ++ n ∷ old) changes ≡ front ++ n ∷ new → changed (front ++ o ∷ old) (if same then changes else record { place = at; glyph = n } ∷ changes) ≡ front ++ n ∷ new
by_same front old new at o n true changes e l h = ap (λ c. changed (front ++ c ∷ old) changes) (sym (eqb-true n o e)) ∙ h
by_same front old new at o n false changes e l h = ap (λ t. changed t changes) (put_here front at n o old l) ∙ h

pub given : (front old new : List ℕ) (at : ℕ) → at ≡ length front → length old ≡ length new → changed (front ++ old) (changes_from at old new) ≡ front ++ new
given front [] [] at l e = refl
given front [] (n ∷ new) at l e = absurd (omega (arith, e))
given front (o ∷ old) [] at l e = absurd (omega (arith, e))
given front (o ∷ old) (n ∷ new) at l e =
    by_same front old new at o n (n == o) (changes_from (suc at) old new) refl l
    (ap (λ t. changed t (changes_from (suc at) old new)) (sym (shift front n old))
    ∙ given (front ++ n ∷ []) old new (suc at) (ap suc l ∙ sym (length_more front n)) (let s : length old ≡ length new = omega (arith, e) in s)
    ∙ shift front n new)
