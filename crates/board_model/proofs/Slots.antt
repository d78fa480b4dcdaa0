-- The slots, where a frame spreads, where one is emitted, and else.
use Rattle.std.proofs.Common.{◌≡◌, ◌<◌, ℕ, ◌+◌, ◌%◌, List, Option, Some, None, length, sym, ap, ◌∙◌, subst, ⊎_elim, arith}
use Rattle.std.proofs.lemmas.Bool.{cases_eq}
use Rattle.job_core.specs.Core.{Setup, Counter, Shown}
use Rattle.job_core.proofs.Computes.{apart}
use Rattle.board_model.specs.Lists.{at, write}
use Rattle.board_model.specs.Law.{SlotsFit}
use Rattle.board_model.proofs.Kit.{length_write, at_here, at_other}

pub slots_same : (s : Setup) (xs : List (Option ℕ)) (n m : Counter → ℕ) → SlotsFit s xs n → ((f : ℕ) → m (Shown f) ≡ n (Shown f)) → SlotsFit s xs m
slots_same s xs n m h e = record {
  size = h.size;
  full = λ f u. h.full f (sym (e f) ∙ u);
  only = λ i f a. let x = h.only i f a in (e f ∙ x.0, x.1);
}

pub slots_fill : (s : Setup) (xs : List (Option ℕ)) (n m : Counter → ℕ) (f : ℕ) → f % s.slots < s.slots → SlotsFit s xs n → n (Shown f) ≡ 0 → m (Shown f) ≡ 1 → ((g : ℕ) → (g ≡ f → ⊥) → m (Shown g) ≡ n (Shown g)) → ((g : ℕ) → n (Shown g) ≡ 1 → (g < f) × (f < g + s.slots)) → SlotsFit s (write xs (f % s.slots) (Some f)) m
slots_fill s xs n m f l h z o e near = record {
  size = length_write xs (f % s.slots) (Some f) ∙ h.size;
  full = λ g u. ⊎_elim
      (λ d. subst (λ x. at (write xs (f % s.slots) (Some f)) (x % s.slots) ≡ Some x) (sym d) (at_here xs (f % s.slots) (Some f) bound))
      (λ d. let y = sym (e g d) ∙ u in let b = near g y in at_other xs (f % s.slots) (g % s.slots) (Some f) (λ c. apart g f s.slots b.0 b.1 c) ∙ h.full g y)
      (cases_eq g f);
  only = λ i g a. ⊎_elim
      (λ d. let b : Some f ≡ Some g = sym (ap (at (write xs (f % s.slots) (Some f))) d ∙ at_here xs (f % s.slots) (Some f) bound) ∙ a in
      let c : f ≡ g = cc in (ap (λ x. m (Shown x)) (sym c) ∙ o, d ∙ ap (λ x. x % s.slots) c))
      (λ d. let b = h.only i g (sym (at_other xs (f % s.slots) i (Some f) d) ∙ a) in
      (e g (λ c. let y : n (Shown g) ≡ 0 = ap (λ x. n (Shown x)) c ∙ z in let x = b.0 in absurd (omega arith)) ∙ b.0, b.1))
      (cases_eq i (f % s.slots));
}
  where
    bound : f % s.slots < length xs
    bound = let y = h.size in omega (arith, l)

pub slots_clear : (s : Setup) (xs : List (Option ℕ)) (n m : Counter → ℕ) (f : ℕ) → f % s.slots < s.slots → SlotsFit s xs n → n (Shown f) ≡ 1 → m (Shown f) ≡ 0 → ((g : ℕ) → (g ≡ f → ⊥) → m (Shown g) ≡ n (Shown g)) → SlotsFit s (write xs (f % s.slots) None) m
slots_clear s xs n m f l h o z e = record {
  size = length_write xs (f % s.slots) None ∙ h.size;
  full = λ g u. ⊎_elim
      (λ d. let y : m (Shown g) ≡ 0 = ap (λ x. m (Shown x)) d ∙ z in absurd (omega arith))
      (λ d. let y = sym (e g d) ∙ u in at_other xs (f % s.slots) (g % s.slots) None (λ c. d (one g f (sym (h.full g y) ∙ (ap (at xs) c ∙ h.full f o)))) ∙ h.full g y)
      (cases_eq g f);
  only = λ i g a. ⊎_elim
      (λ d. let b : None ≡ Some g = sym (ap (at (write xs (f % s.slots) None)) d ∙ at_here xs (f % s.slots) None bound) ∙ a in absurd cc)
      (λ d. let b = h.only i g (sym (at_other xs (f % s.slots) i None d) ∙ a) in
      (e g (λ c. d (b.1 ∙ ap (λ x. x % s.slots) c)) ∙ b.0, b.1))
      (cases_eq i (f % s.slots));
}
  where
    bound : f % s.slots < length xs
    bound = let y = h.size in omega (arith, l)

    one : (g k : ℕ) → Some g ≡ Some k → g ≡ k
    one g k q = cc
