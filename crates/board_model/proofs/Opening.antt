-- Before the first event.
use Rattle.std.proofs.Common.{◌≡◌, ℕ, zero, suc, ◌+◌, Bool, true, false, ◌&&◌, ◌==◌, nat_lt, ◌∷◌, Option, None, length, map, replicate, if◌then◌else◌, refl, sym, ap, ◌∙◌, subst, arith}
use Rattle.job_core.specs.declared.names.JobName.{JobName}
use Rattle.job_core.specs.declared.names.JobName.TheVariants.{Logic, Think, Path, Draw}
use Rattle.job_core.specs.Core.{Setup, same, Phase, Absent, Queued, held, size_of, held_in, Counter, Thinks, Way, Draws, Shown, opening}
use Rattle.job_core.proofs.Sums.{total_zero, jobs_zero}
use Rattle.job_core.proofs.Shape.{opens}
use Rattle.job_core.proofs.Keeping.{held_none}
use Rattle.board_model.specs.Lists.{bit, tally, at, none}
use Rattle.board_model.specs.Board.{Held, is_taken, runner, holds, next_logic, core_opening}
use Rattle.board_model.specs.Law.{queued, has_spread, number, waits_of, is_ready, StandsAs, is_of, size_at, IsPlaced, Fits}
use Rattle.board_model.proofs.Queued.{put_all_tally, next_tally, next_none}

length_same : {X : Type 0} (n : ℕ) (x : X) → length (replicate n x) ≡ n
length_same zero x = refl
length_same (suc n) x = let h = length_same n x in omega arith

at_none : {X : Type 0} (n i : ℕ) → at {X = X} (replicate n None) i ≡ None
at_none zero i = refl
at_none (suc n) zero = refl
at_none {X = X} (suc n) (suc i) = at_none {X = X} n i

none_taken : (n : ℕ) → replicate n false ≡ map is_taken (replicate n None)
none_taken zero = refl
none_taken (suc n) = ap (λ l. false ∷ l) (none_taken n)

none_pass : (p : Option Held → Bool) (n : ℕ) → p None ≡ false → tally p (replicate n None) ≡ 0
none_pass p zero e = refl
none_pass p (suc n) e = let h = none_pass p n e in let b : bit (p None) ≡ 0 = ap bit e in omega arith

abbrev first_phase : Bool → Phase
first_phase b = if b then Queued else Absent

held_first : (b : Bool) → held (first_phase b) ≡ 0
held_first true = refl
held_first false = refl

queued_first : (b : Bool) → queued (first_phase b) ≡ bit b
queued_first true = refl
queued_first false = refl

spread_first : (b : Bool) → has_spread (first_phase b) ≡ false
spread_first true = refl
spread_first false = refl

module _ (s : Setup) where
  numbers : (k : Counter) → number s (opening s) k ≡ 0
  numbers (Thinks f) = total_zero s.agents _ (λ a l. refl)
  numbers (Way f a i) = refl
  numbers (Draws f) = total_zero s.bands _ (λ b l. refl)
  numbers (Shown f) = ap (λ x. bit (x && nat_lt 0 f)) (spread_first ((f == 1) && nat_lt 0 s.frames))

  queues : (j : JobName) → tally (same j) (next_logic s 0) ≡ queued ((opening s).phase j)
  queues (Logic g) = next_tally s (opening s) (opens s) 0 g ∙ sym (queued_first ((g == 1) && nat_lt 0 s.frames))
  queues (Think f a) = next_none s (opening s) (opens s) 0 (same (Think f a)) refl
  queues (Path f a i) = next_none s (opening s) (opens s) 0 (same (Path f a i)) refl
  queues (Draw f b) = next_none s (opening s) (opens s) 0 (same (Draw f b)) refl

  no_entry : (f : ℕ) → at {X = Held} (replicate (s.small + s.large) None) f ≡ None
  no_entry f = at_none (s.small + s.large) f

  pub opening_fits : Fits s (core_opening s) (opening s)
  opening_fits = record {
    stopped = refl;
    emitted = refl;
    queues = λ j. let a = put_all_tally (same j) none (next_logic s 0) in let b = queues j in omega arith;
    seats = record {
      small = refl;
      fibers = length_same (s.small + s.large) None;
      workers = length_same s.workers None;
      taken = none_taken (s.small + s.large);
      placed = λ f. subst (IsPlaced (size_at s.small f)) (sym (no_entry f)) tt;
      live = λ z. none_pass (is_of z) (s.small + s.large) refl ∙ sym (jobs_zero s (λ j. held_in z (size_of j) ((opening s).phase j)) (λ j v. held_none z (size_of j) ((opening s).phase j) (held_first (same j (Logic 1) && nat_lt 0 s.frames))));
      once = λ j. none_pass (holds j) (s.small + s.large) refl ∙ sym (held_first (same j (Logic 1) && nat_lt 0 s.frames));
      stands = λ f. subst (StandsAs (opening s).phase) (sym (no_entry f)) tt;
      runs = λ w f e. let x = sym (at_none {X = ℕ} s.workers w) ∙ e in absurd cc;
      busy = λ f w e. let x = sym (ap runner (no_entry f)) ∙ e in absurd cc;
    };
    waits = record {
      row = λ k. numbers k;
      ready = λ f. sym (ap (λ o. bit (is_ready (number s (opening s)) (waits_of s o))) (no_entry f));
    };
    slots = record {
      size = length_same s.slots None;
      full = λ f e. let x = numbers (Shown f) in absurd (omega arith);
      only = λ i f e. let x = sym (at_none {X = ℕ} s.slots i) ∙ e in absurd cc;
    };
  }
