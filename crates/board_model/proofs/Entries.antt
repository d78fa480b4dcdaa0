-- Which fiber holds a job that runs or waits, and what a change of its entry does.
use Rattle.std.proofs.Common.{◌≡◌, ◌≤◌, ◌<◌, ℕ, ◌+◌, true, false, not, List, Option, Some, None, length, map, take, drop, refl, sym, ap, ◌∙◌, subst, arith}
use Rattle.job_core.specs.declared.names.JobName.{JobName}
use Rattle.job_core.specs.declared.names.Size.{Size}
use Rattle.job_core.specs.declared.names.Size.TheVariants.{Small, Large}
use Rattle.job_core.specs.Core.{pool, Setup, Phase, Runs, Waits, State, held, IsIdle, Counter, awaited}
use Rattle.job_core.proofs.ByCases.{by_same}
use Rattle.board_model.specs.Lists.{tally, at, write, first_place}
use Rattle.board_model.specs.Board.{Seats, Held, runner, is_taken, runs_on, taken_of, lowest, holds, fiber_of, or_zero, same_counter}
use Rattle.board_model.specs.Law.{is_of, size_at, IsPlaced, standing, StandsAs, SeatsFit, waits_by, waits_of, is_for}
use Rattle.board_model.proofs.Kit.{at_here, at_other, at_some, place_found}
use Rattle.board_model.proofs.Seated.{taken, IsOf, IsBy, Change, placed_as}
use Rattle.board_model.proofs.Sizes.{IsFreeAt, free_small, free_large, lowest_small, lowest_large}

pub held_is : (h : Held) (j : JobName) (k : ℕ) (x : Option ℕ) → h.job ≡ j → h.step ≡ k → h.worker ≡ x → Some h ≡ Some (record { job = j; step = k; worker = x })
held_is h j k x a b c = rw (← a, ← b, ← c) refl

pub standing_runs : (x : Option ℕ) (n w k : ℕ) → standing x n ≡ Runs w k → (x ≡ Some w) × (n ≡ k)
standing_runs None n w k e = absurd cc
standing_runs (Some v) n w k e = let a : v ≡ w = cc in let b : n ≡ k = cc in (ap Some a, b)

pub standing_waits : (x : Option ℕ) (n k : ℕ) → standing x n ≡ Waits k → (x ≡ None) × (n ≡ k)
standing_waits None n k e = let b : n ≡ k = cc in (refl, b)
standing_waits (Some v) n k e = absurd cc

entry_of : (phase : JobName → Phase) (j : JobName) (o : Option Held) → holds j o ≡ true → StandsAs phase o → (h : Held) × (o ≡ Some h) × (h.job ≡ j) × (phase j ≡ standing h.worker h.step)
entry_of phase j None e q = absurd cc
entry_of phase j (Some h) e q = by_same j h.job (λ b. b ≡ true → (x : Held) × (Some h ≡ Some x) × (x.job ≡ j) × (phase j ≡ standing x.worker x.step)) (λ d t. (h, refl, sym d, ap phase d ∙ q)) (λ n t. absurd cc) e

module _ (s : Setup) (t : Seats) (phase : JobName → Phase) (fit : SeatsFit s t phase) where
  found : (j : JobName) → held (phase j) ≡ 1 → (h : Held) × (at t.jobs (first_place (holds j) t.jobs) ≡ Some h) × (h.job ≡ j) × (phase j ≡ standing h.worker h.step)
  found j e =
      let z = fit.once j in
      let p = place_found (holds j) t.jobs (omega arith) in
      entry_of phase j (at t.jobs (first_place (holds j) t.jobs)) p.1 (fit.stands (first_place (holds j) t.jobs))

  -- a job that waits
  pub waiting_at : (j : JobName) (k : ℕ) → phase j ≡ Waits k → at t.jobs (first_place (holds j) t.jobs) ≡ Some (record { job = j; step = k; worker = None })
  waiting_at j k q =
      let x = found j (ap held q) in
      let y = standing_waits x.0.worker x.0.step k (sym x.3 ∙ q) in
      x.1 ∙ held_is x.0 j k None x.2 y.1 y.0

  -- a job that runs
  pub running_at : (j : JobName) (w k : ℕ) → phase j ≡ Runs w k → (at t.workers w ≡ Some (fiber_of t w)) × (at t.jobs (fiber_of t w) ≡ Some (record { job = j; step = k; worker = Some w }))
  running_at j w k q =
      let x = found j (ap held q) in
      let y = standing_runs x.0.worker x.0.step w k (sym x.3 ∙ q) in
      let entry : at t.jobs (first_place (holds j) t.jobs) ≡ Some (record { job = j; step = k; worker = Some w }) = x.1 ∙ held_is x.0 j k (Some w) x.2 y.1 y.0 in
      let b : at t.workers w ≡ Some (first_place (holds j) t.jobs) = fit.busy (first_place (holds j) t.jobs) w (ap runner entry) in
      let f : fiber_of t w ≡ first_place (holds j) t.jobs = ap or_zero b in
      (b ∙ ap Some (sym f), ap (at t.jobs) f ∙ entry)

  -- a worker that is idle
  pub idle_at : (st : State) → st.phase ≡ phase → (w : ℕ) → IsIdle st w → at t.workers w ≡ None
  idle_at st e w idle = go (at t.workers w) refl
    where
      inner : (f : ℕ) (o : Option Held) → at t.jobs f ≡ o → runner o ≡ Some w → StandsAs phase o → ⊥
      inner f None a b q = absurd cc
      inner f (Some h) a b q = idle h.job h.step (ap (λ p. p h.job) e ∙ (q ∙ ap (λ x. standing x h.step) b))

      go : (o : Option ℕ) → at t.workers w ≡ o → o ≡ None
      go None a = refl
      go (Some f) a = absurd (inner f (at t.jobs f) refl (fit.runs w f a) (fit.stands f))

  -- as many small fibers as there are places for
  some_small : t.small ≤ length t.jobs
  some_small = let a = fit.small in let b = fit.fibers in omega arith

  -- how many fibers of a size are free
  pub free_of : (z : Size) → tally not (taken_of t z) + tally (is_of z) t.jobs ≡ pool s z
  free_of Small =
      let a = free_small t.small t.jobs some_small fit.placed in
      let e : tally not (take t.small t.taken) ≡ tally not (take t.small (map is_taken t.jobs)) = ap (λ l. tally not (take t.small l)) fit.taken in
      let b = fit.small in
      omega arith
  free_of Large =
      let a = free_large t.small t.jobs some_small fit.placed in
      let e : tally not (drop t.small t.taken) ≡ tally not (drop t.small (map is_taken t.jobs)) = ap (λ l. tally not (drop t.small l)) fit.taken in
      let b = fit.small in
      let d = fit.fibers in
      omega arith

  -- the lowest fiber of a size, where one is free
  pub lowest_free : (z : Size) → 0 < tally not (taken_of t z) → IsFreeAt t.small t.jobs z (lowest t z)
  lowest_free Small l =
      let e = ap (λ b. take t.small b) fit.taken in
      subst (λ b. IsFreeAt t.small t.jobs Small (first_place not b)) (sym e) (lowest_small t.small t.jobs (subst (λ b. 0 < tally not b) e l))
  lowest_free Large l =
      let e = ap (λ b. drop t.small b) fit.taken in
      subst (λ b. IsFreeAt t.small t.jobs Large (t.small + first_place not b)) (sym e) (lowest_large t.small t.jobs (subst (λ b. 0 < tally not b) e l))

  -- the change of the entry of a job that runs
  pub change_running : (new : JobName → Phase) (j : JobName) (w k : ℕ) (o : Option Held) → phase j ≡ Runs w k → IsOf j o → held (new j) ≡ taken o → StandsAs new o → IsBy w (runner o) → Change s t phase new w (fiber_of t w) j o
  change_running new j w k o q of now stands by =
      let x = running_at j w k q in
      record {
        fiber = at_some t.jobs (fiber_of t w) (record { job = j; step = k; worker = Some w }) x.1;
        worker = at_some t.workers w (fiber_of t w) x.0;
        of_old = subst (IsOf j) (sym x.1) refl;
        of_new = of;
        was = ap held q ∙ sym (ap taken x.1);
        now = now;
        stands = stands;
        by_old = subst (λ y. IsBy w (runner y)) (sym x.1) refl;
        by_new = by;
        seat_old = x.0 ∙ sym (ap (λ y. runs_on (fiber_of t w) (runner y)) x.1);
        placed = placed_as (size_at t.small (fiber_of t w)) j o of (subst (IsPlaced (size_at t.small (fiber_of t w))) x.1 (fit.placed (fiber_of t w)));
      }

  -- nobody waits for a counter that no waiting job awaits
  pub nobody : (k : Counter) → ((j : JobName) (n : ℕ) → phase j ≡ Waits n → same_counter k (awaited s j n) ≡ false) → (f : ℕ) → is_for k (waits_of s (at t.jobs f)) ≡ false
  nobody k h f = go (at t.jobs f) (fit.stands f)
    where
      deep : (y : Held) (x : Option ℕ) → phase y.job ≡ standing x y.step → is_for k (waits_by s y.job y.step x) ≡ false
      deep y None q = h y.job y.step q
      deep y (Some w) q = refl

      go : (o : Option Held) → StandsAs phase o → is_for k (waits_of s o) ≡ false
      go None q = refl
      go (Some x) q = deep x x.worker q

-- who waits after the change of one entry
pub waits_here : (s : Setup) (jobs : List (Option Held)) (f : ℕ) (o : Option Held) → f < length jobs → waits_of s (at (write jobs f o) f) ≡ waits_of s o
waits_here s jobs f o l = ap (waits_of s) (at_here jobs f o l)

pub waits_other : (s : Setup) (jobs : List (Option Held)) (f : ℕ) (o : Option Held) (g : ℕ) → (g ≡ f → ⊥) → waits_of s (at (write jobs f o) g) ≡ waits_of s (at jobs g)
waits_other s jobs f o g n = ap (waits_of s) (at_other jobs f g o n)
