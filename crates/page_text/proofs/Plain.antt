-- Bytes that are neither a line feed nor a `<`.
use Rattle.std.proofs.Common.{◌≢◌, ◌≤◌, ◌+◌, ◌/◌, ◌%◌, ◌==◌, ℕ, zero, suc, Bool, true, false, if◌then◌else◌, List, [], ◌∷◌, sym, ap, subst, arith, decimal}
use Rattle.std.specs.List.{All}
use Rattle.std.proofs.lemmas.Bool.{lt-ltb}
use Rattle.std.proofs.lemmas.List.Elements.{All-nil, All-cons}
use Rattle.std.specs.Fmt.{digit_glyph, digits, digits_onto}
use Rattle.page_text.specs.Films.{HasNoMark}

pub record IsPlain (c : ℕ) : Type 0 where
  pub no_feed : c ≢ 10
  pub no_mark : c ≢ 60

abbrev pub ArePlain : List ℕ → Type 0
ArePlain text = All IsPlain text

pub plain : (c : ℕ) → 13 ≤ c → c ≢ 60 → IsPlain c
plain c high other = record { no_feed = λ e. omega (arith, high, e); no_mark = other }

pub unmarked : (text : List ℕ) → ArePlain text → HasNoMark text
unmarked text are = λ k c within. (are k c within).no_mark

-- ---- numbers

digit_plain : (n : ℕ) → IsPlain (digit_glyph false (n % 10))
digit_plain n =
    subst IsPlain (sym (ap (λ small. if small then 48 + n % 10 else 87 + n % 10) (lt-ltb (n % 10) 10 (omega arith))))
    (plain (48 + n % 10) (omega arith) (λ e. omega (arith, e)))

by_end : (last : Bool) (one more : List ℕ) → ArePlain one → ArePlain more → ArePlain (if last then one else more)
by_end true one more a b = a
by_end false one more a b = b

spelled : (k n : ℕ) (behind : List ℕ) → ArePlain behind → ArePlain (digits_onto k 10 false n behind)
spelled zero n behind are = are
spelled (suc k) n behind are =
    let more : ArePlain (digit_glyph false (n % 10) ∷ behind) = All-cons IsPlain (digit_glyph false (n % 10)) behind (digit_plain n) are in
    by_end (n / 10 == 0) (digit_glyph false (n % 10) ∷ behind) (digits_onto k 10 false (n / 10) (digit_glyph false (n % 10) ∷ behind)) more
    (spelled k (n / 10) (digit_glyph false (n % 10) ∷ behind) more)

pub decimal_plain : (n : ℕ) → ArePlain (decimal n)
unfolding digits
decimal_plain n = spelled 64 n [] (All-nil IsPlain)
