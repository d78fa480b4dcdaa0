use Rattle.std.proofs.Common.{◌≡◌, ap, ◌∙◌, sym, ◌&&◌, true, false, refl, List, ℕ, Bool, count_by}
use Rattle.std.specs.List.{list_all}
use Rattle.grid_world.specs.Map.{count_up}
use Rattle.grid_world.specs.MapFaults.{letter_fits, digit_fits, has_letters, is_letter}
use Rattle.grid_world.proofs.CountUp.{passed_one, failed_one, passed_all}
use Rattle.grid_world.proofs.map.has_letters.Goals as goal

with_count : (marks : List ℕ) (n : ℕ) → n ≡ count_by is_letter marks
    → (list_all (letter_fits marks n) (count_up 0 26) && list_all (digit_fits marks) (count_up 0 10))
    ≡ has_letters marks
with_count marks n e = ap
    (λ n. list_all (letter_fits marks n) (count_up 0 26) && list_all (digit_fits marks) (count_up 0 10)) e

and-false : (a b : Bool) → false ≡ b → false ≡ (a && b)
and-false true b e = e
and-false false b e = refl

and-true : (a b : Bool) → true ≡ a → true ≡ b → true ≡ (a && b)
and-true a b e f = rw (← e, ← f) refl

pub letters-init : goal.letters-init
letters-init c = refl

pub letters-preserved : goal.letters-preserved
letters-preserved c = passed_one
    (letter_fits c.args.marks.now c.letters_in-letters.result) c.letters.k 26 _ c.letters-test.true
    (sym c.letter_fits.ensures ∙ c.if-not-letter_fits.false) c.letters.invariant

pub digits-init : goal.digits-init
digits-init c = refl

pub digits-preserved : goal.digits-preserved
digits-preserved c = passed_one (digit_fits c.args.marks.now) c.digits.d 10 _ c.digits-test.true
    (sym c.digit_fits.ensures ∙ c.if-not-digit_fits.false) c.digits.invariant

pub returns-then-not-letter_fits : goal.returns-then-not-letter_fits
returns-then-not-letter_fits c =
    ap (λ t. t && list_all (digit_fits c.args.marks.now) (count_up 0 10))
    (failed_one (letter_fits c.args.marks.now c.letters_in-letters.result) c.letters.k 26 _ c.letters-test.true (sym c.letter_fits.ensures ∙ c.if-not-letter_fits.true) c.letters.invariant) ∙ with_count c.args.marks.now _ c.letters_in-letters.ensures

pub returns-then-not-digit_fits : goal.returns-then-not-digit_fits
returns-then-not-digit_fits c = and-false _ _
    (failed_one (digit_fits c.args.marks.now) c.digits.d 10 _ c.digits-test.true
    (sym c.digit_fits.ensures ∙ c.if-not-digit_fits.true) c.digits.invariant)

pub returns : goal.returns
returns c =
    and-true _ _ (passed_all
    (letter_fits c.args.marks.now c.letters_in-letters.result) c.letters.k 26 _ c.letters-test.false c.letters.invariant) (passed_all (digit_fits c.args.marks.now) c.digits.d 10 _ c.digits-test.false c.digits.invariant)
    ∙ with_count c.args.marks.now _ c.letters_in-letters.ensures
