-- One hexadecimal digit more.
use Rattle.std.proofs.Common.{◌≡◌, ◌<◌, ◌-◌, ◌/◌, ◌%◌, ◌∙◌, ℕ, zero, suc, List, [], ◌∷◌, ◌++◌, refl, sym, ap, arith, append-nil, append_assoc}
use Rattle.byte_streams.specs.Hex.{hex, hex_digit}

hex_none : (n : ℕ) → hex 0 n ≡ []
unfolding hex
hex_none n = refl

hex_suc : (digits n : ℕ) → hex (suc digits) n ≡ hex digits (n / 16) ++ hex_digit (n % 16) ∷ []
unfolding hex
hex_suc digits n = refl

hex_more : (digits n : ℕ) → 0 < digits → hex digits n ≡ hex (digits - 1) (n / 16) ++ hex_digit (n % 16) ∷ []
hex_more zero n some = absurd (omega (arith, some))
hex_more (suc digits) n some =
    let e : digits ≡ suc digits - 1 = omega arith in
    hex_suc digits n ∙ ap (λ k. hex k (n / 16) ++ hex_digit (n % 16) ∷ []) e

pub none_pushed : (text : List ℕ) (digits n : ℕ) → digits ≡ 0 → text ≡ text ++ hex digits n
none_pushed text digits n none = sym (append-nil text) ∙ ap (λ l. text ++ l) (sym (ap (λ k. hex k n) none ∙ hex_none n))

pub one_pushed : (text longer all : List ℕ) (digits n digit : ℕ) → 0 < digits → longer ≡ text ++ hex (digits - 1) (n / 16) → digit ≡ hex_digit (n % 16)
    → all ≡ longer ++ digit ∷ [] → all ≡ text ++ hex digits n
one_pushed text longer all digits n digit some before is pushed =
    pushed ∙ ap (λ l. l ++ digit ∷ []) before ∙ ap (λ d. (text ++ hex (digits - 1) (n / 16)) ++ d ∷ []) is
    ∙ append_assoc text (hex (digits - 1) (n / 16)) (hex_digit (n % 16) ∷ [])
    ∙ ap (λ l. text ++ l) (sym (hex_more digits n some))
