-- A band more that is taken, and counted or not.
use Rattle.std.proofs.Common.{◌≡◌, ◌≢◌, ℕ, ◌+◌, ◌<◌, ◌≤◌, List, [], ◌∷◌, ◌++◌, length, get_or, set, sym, ap, ◌∙◌, subst, arith, inl, inr, length-append, get_or-set_same, get_or-set_other}
use Rattle.std.proofs.lemmas.Bool.{cases_eq}
use Rattle.run_printer.specs.Counts.{AreAtMost}

module _ {T : Type 0} (lists : List (List T)) (w : ℕ) (x : T) (low : w < length lists) where
  abbrev longer : List (List T)
  longer = set lists w (get_or lists w [] ++ x ∷ [])

  at_place : length (get_or longer w []) ≡ length (get_or lists w []) + 1
  at_place =
      ap (λ (l : List T). length l) (get_or-set_same lists w (get_or lists w [] ++ x ∷ []) [] low)
      ∙ length-append (get_or lists w []) (x ∷ [])

  elsewhere : (k : ℕ) → k ≢ w → get_or longer k [] ≡ get_or lists k []
  elsewhere k other = get_or-set_other lists w k (get_or lists w [] ++ x ∷ []) [] other

  -- the band is counted
  pub counted : (counts : List ℕ) (n : ℕ) → w < length counts → n ≤ get_or counts w 0 + 1 → AreAtMost counts lists → AreAtMost (set counts w n) (set lists w (get_or lists w [] ++ x ∷ []))
  counted counts n within few before k = elim (cases_eq w k) [
    | inl same ↦
        let P : ℕ → Type 0 = λ j. get_or (set counts w n) j 0 ≤ length (get_or (set lists w (get_or lists w [] ++ x ∷ [])) j []) in
        subst P same (omega (arith, get_or-set_same counts w n 0 within, at_place, before w, few))
    | inr differ ↦
        let other : k ≢ w = λ e. differ (sym e) in
        omega (arith, get_or-set_other counts w k n 0 other, ap (λ (l : List T). length l) (elsewhere k other), before k)
  ]

  -- there is no number for it
  pub passed_over : (counts : List ℕ) → AreAtMost counts lists → AreAtMost counts (set lists w (get_or lists w [] ++ x ∷ []))
  passed_over counts before k = elim (cases_eq w k) [
    | inl same ↦
        let P : ℕ → Type 0 = λ j. get_or counts j 0 ≤ length (get_or (set lists w (get_or lists w [] ++ x ∷ [])) j []) in
        subst P same (omega (arith, at_place, before w))
    | inr differ ↦
        let other : k ≢ w = λ e. differ (sym e) in
        omega (arith, ap (λ (l : List T). length l) (elsewhere k other), before k)
  ]
