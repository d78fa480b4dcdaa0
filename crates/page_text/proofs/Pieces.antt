-- Texts that are compared in pieces.
use Rattle.std.proofs.Common.{not, ◌≡◌, ◌∙◌, ◌+◌, ◌-◌, ◌≤◌, ◌==◌, ℕ, suc, Bool, true, false, if◌then◌else◌, List, [], ◌∷◌, ◌++◌, length, take, drop, refl, sym, ap, ap₂, arith, append_assoc, append-nil}
use Rattle.std.specs.Cmp.Lexicographic.{pointwise}
use Rattle.std.proofs.Math.Dec.{eqb}
use Rattle.std.proofs.lemmas.Bool.{eq-eqb}
use Rattle.std.proofs.lemmas.Bool.Decides.{Decides-eqb}
use Rattle.std.proofs.lemmas.Grind.{flat_map-append}
use Rattle.std.proofs.lemmas.List.{drop-drop, length-drop, length-take-le, take-append-drop}
use Rattle.std.proofs.lemmas.Slice.Eq.{slice_eq-Decides}
use Rattle.page_text.specs.declared.byte_change.ByteChange.{ByteChange}
use Rattle.page_text.specs.Changes.{change_text, changes_from, changes_text, unless}

by_same : (same : Bool) (change : ByteChange) (some more : List ByteChange) → (if same then some ++ more else change ∷ (some ++ more)) ≡ (if same then some else change ∷ some) ++ more
by_same true change some more = refl
by_same false change some more = refl

-- the changes of a text are those of its first piece, and those behind it
pub in_two : (at : ℕ) (old old_more new new_more : List ℕ) → length old ≡ length new
    → changes_from at (old ++ old_more) (new ++ new_more) ≡ changes_from at old new ++ changes_from (at + length old) old_more new_more
in_two at [] old_more [] new_more same = ap (λ n. changes_from n old_more new_more) (omega arith)
in_two at [] old_more (n ∷ new) new_more same = cc
in_two at (o ∷ old) old_more [] new_more same = cc
in_two at (o ∷ old) old_more (n ∷ new) new_more same =
    let behind = in_two (suc at) old old_more new new_more (omega (arith, same)) in
    ap (unless o n at) behind
    ∙ by_same (n == o) (record { place = at; glyph = n }) (changes_from (suc at) old new) (changes_from (suc at + length old) old_more new_more)
    ∙ ap (λ k. unless o n at (changes_from (suc at) old new) ++ changes_from k old_more new_more) (omega arith)

pub unchanged : (at : ℕ) (text : List ℕ) → changes_from at text text ≡ []
unchanged at [] = refl
unchanged at (c ∷ text) =
    ap (λ same. if same then changes_from (suc at) text text else record { place = at; glyph = c } ∷ changes_from (suc at) text text) (eq-eqb c c refl)
    ∙ unchanged (suc at) text

-- a piece, and what stands behind it
module _ (old new : List ℕ) (place count : ℕ) (same : length old ≡ length new) (within : place + count ≤ length new) where
  abbrev piece : List ℕ → List ℕ
  piece text = take ((place + count) - place) (drop place text)

  abbrev behind : List ℕ → List ℕ
  behind text = drop (place + count) text

  size : (text : List ℕ) → place + count ≤ length text → length (piece text) ≡ count
  size text fits =
      let left = length-drop place text in
      length-take-le ((place + count) - place) (drop place text) (omega (arith, fits, left)) ∙ omega arith

  whole : (text : List ℕ) → drop place text ≡ piece text ++ behind text
  whole text =
      sym (take-append-drop ((place + count) - place) (drop place text))
      ∙ ap (λ rest. piece text ++ rest) (drop-drop ((place + count) - place) place text ∙ ap (λ n. drop n text) (omega arith))

  told : changes_from place (drop place old) (drop place new) ≡ changes_from place (piece old) (piece new) ++ changes_from (place + count) (behind old) (behind new)
  told =
      let before = size old (omega (arith, same, within)) in
      let after = size new within in
      ap₂ (changes_from place) (whole old) (whole new)
      ∙ in_two place (piece old) (behind old) (piece new) (behind new) (before ∙ sym after)
      ∙ ap (λ n. changes_from place (piece old) (piece new) ++ changes_from (place + n) (behind old) (behind new)) before

  module _ (text all : List ℕ) (known : text ++ changes_text (changes_from place (drop place old) (drop place new)) ≡ all) where
    pub further : (longer : List ℕ) → longer ≡ text ++ changes_text (changes_from place (piece old) (piece new))
        → longer ++ changes_text (changes_from (place + count) (behind old) (behind new)) ≡ all
    further longer is =
        ap (λ l. l ++ changes_text (changes_from (place + count) (behind old) (behind new))) is
        ∙ append_assoc text (changes_text (changes_from place (piece old) (piece new))) (changes_text (changes_from (place + count) (behind old) (behind new)))
        ∙ ap (λ l. text ++ l) (sym (flat_map-append change_text (changes_from place (piece old) (piece new)) (changes_from (place + count) (behind old) (behind new))))
        ∙ ap (λ l. text ++ changes_text l) (sym told) ∙ known

    pub passed : pointwise eqb (piece old) (piece new) ≡ true → text ++ changes_text (changes_from (place + count) (behind old) (behind new)) ≡ all
    passed equal =
        let alike : piece old ≡ piece new = (slice_eq-Decides Decides-eqb (piece old) (piece new) true (sym equal)).0 refl in
        let none : changes_from place (piece old) (piece new) ≡ [] = ap (λ l. changes_from place l (piece new)) alike ∙ unchanged place (piece new) in
        further text (sym (append-nil text) ∙ ap (λ l. text ++ changes_text l) (sym none))

pub is_equal : (equal : Bool) → false ≡ not equal → equal ≡ true
is_equal true e = refl
is_equal false e = cc
