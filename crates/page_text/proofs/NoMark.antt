-- No byte of a film is a `<`.
use Rattle.std.proofs.Common.{◌≢◌, ◌<◌, ◌≤◌, ◌^◌, ◌+◌, ◌/◌, ◌%◌, ◌∙◌, ◌==◌, ℕ, suc, Bool, true, false, if◌then◌else◌, List, [], ◌∷◌, ◌++◌, length, sym, ap, subst, arith, codes, decimal}
use Rattle.std.specs.List.{All}
use Rattle.std.proofs.lemmas.Fmt.{decimal_by_steps}
use Rattle.std.proofs.lemmas.List.Concat.{flat_map-cons}
use Rattle.std.proofs.lemmas.List.Elements.{All-nil, All-cons, All-append}
use Rattle.page_text.specs.declared.byte_change.ByteChange.{ByteChange}
use Rattle.page_text.specs.Changes.{change_text, changes_from, changes_text}
use Rattle.page_text.specs.Films.{Frame, HasNoMark, IsFrameOf, IsWithoutMark, film_after, film_of, kept_rows}
use Rattle.page_text.proofs.Unrolled.{feeds_length}

abbrev IsOther : ℕ → Type 0
IsOther c = c ≢ 60

-- ---- numbers

abbrev AreOther : ℕ → List ℕ → Type 0
AreOther n ds = HasNoMark ds

one_digit : (n : ℕ) → n < 10 → AreOther n ((48 + n) ∷ [])
one_digit n small = All-cons IsOther (48 + n) [] (λ e. omega (arith, small, e)) (All-nil IsOther)

more_digits : (n : ℕ) (ds : List ℕ) → 10 ≤ n → AreOther (n / 10) ds → AreOther n (ds ++ (48 + n % 10) ∷ [])
more_digits n ds large front = All-append IsOther ds ((48 + n % 10) ∷ []) front (All-cons IsOther (48 + n % 10) [] (λ e. omega (arith, e)) (All-nil IsOther))

number : (n : ℕ) → n < 2 ^ 64 → HasNoMark (decimal n)
number n small = decimal_by_steps AreOther one_digit more_digits n small

-- ---- changes

pub record IsPlain (change : ByteChange) : Type 0 where
  pub glyph : change.glyph ≢ 60
  pub place : change.place < 2 ^ 64

by_same : (at n : ℕ) (same : Bool) (changes : List ByteChange) → n ≢ 60 → at < 2 ^ 64 → All IsPlain changes
    → All IsPlain (if same then changes else record { place = at; glyph = n } ∷ changes)
by_same at n true changes other small all = all
by_same at n false changes other small all =
    All-cons IsPlain (record { place = at; glyph = n }) changes (record { glyph = other; place = small }) all

plain : (at : ℕ) (old new : List ℕ) → at + length old ≤ 16512 → HasNoMark new → All IsPlain (changes_from at old new)
plain at [] new few other = All-nil IsPlain
plain at (o ∷ old) [] few other = All-nil IsPlain
plain at (o ∷ old) (n ∷ new) few other =
    by_same at n (n == o) (changes_from (suc at) old new) (other 0 n (omega arith)) (omega (arith, few))
    (plain (suc at) old new (omega (arith, few)) (λ k d l. other (suc k) d (omega (arith, l))))

change_plain : (change : ByteChange) → IsPlain change → HasNoMark (change_text change)
change_plain change is =
    All-cons IsOther change.glyph (decimal change.place ++ codes ",") is.glyph
    (All-append IsOther (decimal change.place) (codes ",") (number change.place is.place) (All-cons IsOther 44 [] (λ e. omega (arith, e)) (All-nil IsOther)))

changes_plain : (changes : List ByteChange) → All IsPlain changes → HasNoMark (changes_text changes)
changes_plain [] are = All-nil IsOther
changes_plain (change ∷ changes) are =
    subst HasNoMark (sym (flat_map-cons change_text change changes))
    (All-append IsOther (change_text change) (changes_text changes) (change_plain change (are 0 change (omega arith)))
    (changes_plain changes (λ k d l. are (suc k) d (omega (arith, l)))))

-- ---- frames

rows_plain : (old new : List ℕ) → length old ≤ 16512 → HasNoMark new → HasNoMark (kept_rows old new)
rows_plain [] new few other = other
rows_plain (c ∷ old) new few other =
    All-append IsOther (changes_text (changes_from 0 (c ∷ old) new)) (10 ∷ []) (changes_plain (changes_from 0 (c ∷ old) new) (plain 0 (c ∷ old) new (omega (arith, few)) other))
    (All-cons IsOther 10 [] (λ e. omega (arith, e)) (All-nil IsOther))

after : (feeds : List Bool) (agents : ℕ) (old : List ℕ) (frames : List Frame) → length feeds ≤ 16512 → length old ≤ 16512
    → All (IsFrameOf feeds agents) frames → All IsWithoutMark frames → HasNoMark (film_after old frames)
after feeds agents old [] few short are other = All-nil IsOther
after feeds agents old (frame ∷ frames) few short are other =
    let is = are 0 frame (omega arith) in
    let its = other 0 frame (omega arith) in
    let long : length frame.rows ≤ 16512 = subst (λ n. n ≤ 16512) (ap length (sym is.rows) ∙ feeds_length frame.rows) few in
    All-append IsOther (kept_rows old frame.rows ++ frame.lines) (film_after frame.rows frames)
    (All-append IsOther (kept_rows old frame.rows) frame.lines (rows_plain old frame.rows short its.rows) its.lines)
    (after feeds agents frame.rows frames few long (λ k d l. are (suc k) d (omega (arith, l))) (λ k d l. other (suc k) d (omega (arith, l))))

pub no_mark : (feeds : List Bool) (agents : ℕ) (frames : List Frame) → length feeds ≤ 16512 → All (IsFrameOf feeds agents) frames
    → All IsWithoutMark frames → HasNoMark (film_of frames)
no_mark feeds agents frames few are other = after feeds agents [] frames few (omega arith) are other
