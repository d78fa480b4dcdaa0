-- Changes are read back from their text.
use Rattle.std.proofs.Common.{◌≡◌, ◌≢◌, ◌∙◌, ℕ, suc, ◌+◌, ◌-◌, ◌*◌, ◌/◌, ◌%◌, ◌^◌, ◌<◌, ◌≤◌, false, List, [], ◌∷◌, ◌++◌, Some, None, refl, ap, eqb, arith, append_assoc, decimal, codes}
use Rattle.std.specs.List.{All}
use Rattle.std.proofs.lemmas.Fmt.{decimal_by_steps}
use Rattle.std.proofs.lemmas.Grind.{common_steps}
use Rattle.std.proofs.lemmas.List.Concat.{flat_map-cons}
use Rattle.page_text.specs.declared.byte_change.ByteChange.{ByteChange}
use Rattle.page_text.specs.Changes.{change_text, changes_text}
use Rattle.page_text.specs.Reading.{and_more, read, IsReadable}

-- the digits of a number are read as it
abbrev AreRead : (glyph n : ℕ) → List ℕ → Type 0
AreRead glyph n ds = (rest : List ℕ) → read (Some (glyph, 0)) (ds ++ rest) ≡ read (Some (glyph, n)) rest

digit_more : (glyph so n d : ℕ) → d < 10 → 10 * so + d ≡ n → (rest : List ℕ) → read (Some (glyph, so)) ((48 + d) ∷ rest) ≡ read (Some (glyph, n)) rest
unfolding read
digit_more glyph so n d digit value rest =
    let other : eqb (48 + d) 44 ≡ false = grind (arith, common_steps) in
    let is : 10 * so + (48 + d - 48) ≡ n = omega (arith, value) in
    rw (other, is) refl

one_read : (glyph n : ℕ) → n < 10 → AreRead glyph n ((48 + n) ∷ [])
one_read glyph n digit rest = digit_more glyph 0 n n digit (omega arith) rest

more_read : (glyph n : ℕ) (ds : List ℕ) → 10 ≤ n → AreRead glyph (n / 10) ds → AreRead glyph n (ds ++ (48 + n % 10) ∷ [])
more_read glyph n ds large front rest =
    ap (read (Some (glyph, 0))) (append_assoc ds ((48 + n % 10) ∷ []) rest) ∙ front ((48 + n % 10) ∷ rest) ∙ digit_more glyph (n / 10) n (n % 10) (omega arith) (omega arith) rest

number_read : (glyph n : ℕ) → n < 2 ^ 64 → AreRead glyph n (decimal n)
number_read glyph n small = decimal_by_steps (AreRead glyph) (one_read glyph) (more_read glyph) n small

glyph_read : (glyph : ℕ) → glyph ≢ 10 → (rest : List ℕ) → read None (glyph ∷ rest) ≡ read (Some (glyph, 0)) rest
unfolding read
glyph_read glyph other rest = let e : eqb glyph 10 ≡ false = grind (arith, common_steps) in rw e refl

comma_read : (glyph n : ℕ) (rest : List ℕ) → read (Some (glyph, n)) (44 ∷ rest) ≡ and_more (record { place = n; glyph = glyph }) (read None rest)
unfolding read
comma_read glyph n rest = refl

line_read : (rest : List ℕ) → read None (10 ∷ rest) ≡ ([], rest)
unfolding read
line_read rest = refl

one_change : (change : ByteChange) → IsReadable change → (rest : List ℕ) → read None (change_text change ++ rest) ≡ and_more change (read None rest)
one_change change can rest =
    glyph_read change.glyph can.0 ((decimal change.place ++ codes ",") ++ rest)
    ∙ ap (read (Some (change.glyph, 0))) (append_assoc (decimal change.place) (codes ",") rest)
    ∙ number_read change.glyph change.place can.1 (44 ∷ rest) ∙ comma_read change.glyph change.place rest

pub read_back : (changes : List ByteChange) (rest : List ℕ) → All IsReadable changes → read None (changes_text changes ++ 10 ∷ rest) ≡ (changes, rest)
read_back [] rest can = line_read rest
read_back (change ∷ changes) rest can =
    ap (λ text. read None (text ++ 10 ∷ rest)) (flat_map-cons change_text change changes)
    ∙ ap (read None) (append_assoc (change_text change) (changes_text changes) (10 ∷ rest))
    ∙ one_change change (can 0 change (omega arith)) (changes_text changes ++ 10 ∷ rest)
    ∙ ap (and_more change) (read_back changes rest (λ k d l. can (suc k) d (omega (arith, l))))
