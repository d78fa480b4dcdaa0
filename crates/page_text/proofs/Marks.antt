-- What is put into a page has no `<`.
use Rattle.std.proofs.Common.{◌≡◌, ◌≢◌, ◌∙◌, ◌==◌, ◌||◌, ℕ, suc, Bool, true, false, if◌then◌else◌, List, [], ◌∷◌, ◌++◌, refl, sym, ap, ap₂, subst, arith, codes}
use Rattle.std.specs.List.{All, list_any}
use Rattle.std.proofs.lemmas.Bool.{eq-eqb, ne_eqb}
use Rattle.std.proofs.lemmas.List.Concat.{flat_map-cons}
use Rattle.std.proofs.lemmas.List.Elements.{All-nil, All-cons, All-append}
use Rattle.page_text.specs.Escapes.{escaped, escaped_byte}

abbrev IsOther : ℕ → Type 0
IsOther c = c ≢ 60

escape : All IsOther (codes "\\u003c")
escape =
    All-cons IsOther 92 (codes "u003c") (λ e. omega (arith, e))
    (All-cons IsOther 117 (codes "003c") (λ e. omega (arith, e))
    (All-cons IsOther 48 (codes "03c") (λ e. omega (arith, e))
    (All-cons IsOther 48 (codes "3c") (λ e. omega (arith, e))
    (All-cons IsOther 51 (codes "c") (λ e. omega (arith, e))
    (All-cons IsOther 99 [] (λ e. omega (arith, e)) (All-nil IsOther))))))

by_mark : (c : ℕ) (mark : Bool) → (c == 60) ≡ mark → All IsOther (if mark then codes "\\u003c" else c ∷ [])
by_mark c true e = escape
by_mark c false e = All-cons IsOther c [] (λ same. let z = sym e ∙ eq-eqb c 60 same in cc) (All-nil IsOther)

pub escaped_other : (text : List ℕ) → All IsOther (escaped text)
escaped_other [] = All-nil IsOther
escaped_other (c ∷ text) =
    subst (All IsOther) (sym (flat_map-cons escaped_byte c text))
    (All-append IsOther (escaped_byte c) (escaped text) (by_mark c (c == 60) refl) (escaped_other text))

pub escaped_same : (text : List ℕ) → All IsOther text → escaped text ≡ text
escaped_same [] other = refl
escaped_same (c ∷ text) other =
    let plain : (c == 60) ≡ false = ne_eqb c 60 (other 0 c (omega arith)) in
    flat_map-cons escaped_byte c text
    ∙ ap₂ (λ l m. l ++ m) (ap (λ mark. if mark then codes "\\u003c" else c ∷ []) plain) (escaped_same text (λ k d l. other (suc k) d (omega (arith, l))))

-- ---- a text that is looked through

neither : (one other : Bool) → (one || other) ≡ false → (one ≡ false) × (other ≡ false)
neither true other e = cc
neither false other e = (refl, e)

pub unmarked : (text : List ℕ) → list_any (λ c. c == 60) text ≡ false → escaped text ≡ text
unmarked [] none = refl
unmarked (c ∷ text) none =
    let both = neither (c == 60) (list_any (λ d. d == 60) text) none in
    flat_map-cons escaped_byte c text ∙ ap₂ (λ l m. l ++ m) (ap (λ mark. if mark then codes "\\u003c" else c ∷ []) both.0) (unmarked text both.1)
