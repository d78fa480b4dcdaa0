-- Each event keeps the fit.
use Rattle.std.proofs.Common.{◌≡◌, ◌<◌, ℕ, zero, suc, ◌-◌, true, ◌==◌, List, Option, Some, None, length, refl, sym, ap, ◌∙◌, subst, ⊎_elim, arith}
use Rattle.std.proofs.lemmas.Bool.{cases_eq}
use Rattle.job_core.specs.declared.names.JobName.{JobName}
use Rattle.job_core.specs.declared.names.JobName.TheVariants.{Logic}
use Rattle.job_core.specs.declared.names.Event.TheVariants.{Start, Resume, Hold, Stop}
use Rattle.job_core.specs.Core.{Setup, Queued, Runs, Waits, State, held, size_of, free, left, awaited, Counter, Thinks, Way, Draws, Shown, May, step_of, put, after}
use Rattle.job_core.proofs.ByCases.{by_eq}
use Rattle.job_core.proofs.Shape.{Shape}
use Rattle.job_core.proofs.Moves.{put_here}
use Rattle.board_model.specs.Lists.{bit, tally, at, write, first_place, all, take_from, Priority}
use Rattle.board_model.specs.Board.{Core, Held, Row, runner, runs_on, lowest, seat, holds, fiber_of, by_worker, wait, wait_ready, priority_of, core_after}
use Rattle.board_model.specs.Law.{queued, pending, has_spread, number, waits_of, is_ready, size_at, IsPlaced, WaitsFit, SeatsFit, Fits}
use Rattle.board_model.proofs.Kit.{all_take, at_some}
use Rattle.board_model.proofs.Waits.{waits_same, waits_leave, waits_wait}
use Rattle.board_model.proofs.Seated.{taken, IsOf, IsBy, Change, seated}
use Rattle.board_model.proofs.Numbers.{number_put, number_le}
use Rattle.board_model.proofs.Entries.{waiting_at, running_at, idle_at, free_of, lowest_free, change_running, waits_here, waits_other}
use Rattle.board_model.proofs.Queued.{queues_start, queues_put}
use Rattle.board_model.proofs.Slots.{slots_same}

spread_runs : (w k : ℕ) → has_spread (Runs w k) ≡ has_spread (Waits k)
spread_runs w zero = refl
spread_runs w (suc k) = refl

pub is_it : (f y : ℕ) → (f == y) ≡ true → y ≡ f
is_it f y = by_eq f y (λ b. b ≡ true → y ≡ f) (λ d t. sym d) (λ n t. absurd cc)

module _ (s : Setup) (st : State) (inv : Shape s st) (c : Core) (h : Fits s c st) where
  -- who waits, before
  abbrev waited : ℕ → Option Counter
  waited f = waits_of s (at c.seats.jobs f)

  -- a change of an entry that waits for nothing, before and after
  still : (f : ℕ) (o : Option Held) → f < length c.seats.jobs → waits_of s (at c.seats.jobs f) ≡ None → waits_of s o ≡ None → (g : ℕ) → waits_of s (at (write c.seats.jobs f o) g) ≡ waits_of s (at c.seats.jobs g)
  still f o l a b g = ⊎_elim (λ d. ap (λ x. waits_of s (at (write c.seats.jobs f o) x)) d ∙ (waits_here s c.seats.jobs f o l ∙ (b ∙ (sym a ∙ ap (λ x. waits_of s (at c.seats.jobs x)) (sym d))))) (λ n. waits_other s c.seats.jobs f o g n) (cases_eq g f)

  pub start_fits : (w : ℕ) (j : JobName) → May s st (Start w j) → Fits s (core_after s c (Start w j)) (after s st (Start w j))
  start_fits w j m =
      let q : st.phase j ≡ Queued = m.2 in
      let lf = lowest_free s c.seats st.phase h.seats (size_of j) (let a = h.seats.live (size_of j) in let b = free_of s c.seats st.phase h.seats (size_of j) in let d : 0 < free s st (size_of j) = m.3 in omega arith) in
      let idle = idle_at s c.seats st.phase h.seats st refl w m.1 in
      let f = lowest c.seats (size_of j) in
      let o : Option Held = Some (record { job = j; step = 0; worker = Some w }) in
      let ch : Change s c.seats st.phase (put st.phase j (Runs w 0)) w f j o = record {
        fiber = lf.0;
        worker = let a = h.seats.workers in omega (arith, m.0);
        of_old = subst (IsOf j) (sym lf.1) tt;
        of_new = refl;
        was = ap held q ∙ sym (ap taken lf.1);
        placed = lf.2;
        now = ap held (put_here st.phase j (Runs w 0));
        stands = put_here st.phase j (Runs w 0);
        by_old = subst (λ y. IsBy w (runner y)) (sym lf.1) tt;
        by_new = refl;
        seat_old = idle ∙ sym (ap (λ y. runs_on f (runner y)) lf.1);
      } in
      let num = number_put s st j (Runs w 0) (sym (ap pending q)) (sym (ap has_spread q)) in
      record {
        stopped = h.stopped;
        emitted = h.emitted;
        queues = queues_start c.queues.fresh st.phase j w h.queues q;
        seats = seated s st inv (Start w j) m tt c.seats h.seats w f o ch;
        waits = waits_same (number s st) _ waited _ c.counters (all c.queues.ready) h.waits num (still f o lf.0 (ap (waits_of s) lf.1) refl);
        slots = slots_same s c.slots (number s st) _ h.slots (λ f. num (Shown f));
      }

  pub resume_fits : (w : ℕ) (j : JobName) → May s st (Resume w j) → Fits s (core_after s c (Resume w j)) (after s st (Resume w j))
  resume_fits w j m =
      let r = m.2 in
      let k = r.0 in
      let q : st.phase j ≡ Waits k = r.1 in
      let f = first_place (holds j) c.seats.jobs in
      let o : Option Held = Some (record { job = j; step = k; worker = Some w }) in
      let entry = waiting_at s c.seats st.phase h.seats j k q in
      let fb = at_some c.seats.jobs f (record { job = j; step = k; worker = None }) entry in
      let idle = idle_at s c.seats st.phase h.seats st refl w m.1 in
      let e : by_worker w (at c.seats.jobs f) ≡ o = ap (by_worker w) entry in
      let step : step_of (st.phase j) ≡ k = ap step_of q in
      let here : put st.phase j (Runs w (step_of (st.phase j))) j ≡ Runs w k = put_here st.phase j (Runs w (step_of (st.phase j))) ∙ ap (Runs w) step in
      let ch : Change s c.seats st.phase (put st.phase j (Runs w (step_of (st.phase j)))) w f j o = record {
        fiber = fb;
        worker = let a = h.seats.workers in omega (arith, m.0);
        of_old = subst (IsOf j) (sym entry) refl;
        of_new = refl;
        was = ap held q ∙ sym (ap taken entry);
        placed = subst (IsPlaced (size_at c.seats.small f)) entry (h.seats.placed f);
        now = ap held here;
        stands = here;
        by_old = subst (λ y. IsBy w (runner y)) (sym entry) tt;
        by_new = refl;
        seat_old = idle ∙ sym (ap (λ y. runs_on f (runner y)) entry);
      } in
      let num = number_put s st j (Runs w (step_of (st.phase j))) (sym (ap pending q)) (ap (λ x. has_spread (Runs w x)) step ∙ (spread_runs w k ∙ sym (ap has_spread q))) in
      let key = awaited s j k in
      let zero_number : number s st key ≡ 0 = let a = number_le s st key in let b : left s st key ≡ 0 = r.2 in omega arith in
      let wf : waited f ≡ Some key = ap (waits_of s) entry in
      let one : 0 < tally (λ x. f == x) (all c.queues.ready) = let a = h.waits.ready f in let b : bit (is_ready (number s st) (waited f)) ≡ 1 = ap (λ y. bit (is_ready (number s st) y)) wf ∙ ap (λ x. bit (x == 0)) zero_number in omega arith in
      let left_ready = waits_leave (number s st) waited (λ g. waits_of s (at (write c.seats.jobs f o) g)) c.counters (all c.queues.ready) (all (take_from (λ g. f == g) c.queues.ready)) f key h.waits wf zero_number
      (waits_here s c.seats.jobs f o fb) (λ g n. waits_other s c.seats.jobs f o g n)
      (λ g. all_take (λ x. g == x) (λ x. f == x) f (λ y t. is_it f y t) c.queues.ready one) in
      record {
        stopped = h.stopped;
        emitted = h.emitted;
        queues = queues_put c.queues.fresh st.phase j (Runs w (step_of (st.phase j))) h.queues (ap queued q) refl;
        seats = subst (λ y. SeatsFit s (seat c.seats w f y) (put st.phase j (Runs w (step_of (st.phase j))))) (sym e) (seated s st inv (Resume w j) m tt c.seats h.seats w f o ch);
        waits = subst (λ y. WaitsFit (number s (after s st (Resume w j))) (λ g. waits_of s (at (write c.seats.jobs f y) g)) c.counters (all (take_from (λ g. f == g) c.queues.ready))) (sym e)
            (waits_same (number s st) (number s (after s st (Resume w j))) _ _ c.counters _ left_ready num (λ g. refl));
        slots = slots_same s c.slots (number s st) _ h.slots (λ f. num (Shown f));
      }

  -- worker w's job waits for a counter
  pub wait_fits : (n : Counter → ℕ) (w i k : ℕ) (j : JobName) (key : Counter) (cs : List Row) (p : Priority) → st.phase j ≡ Runs w i → awaited s j k ≡ key → WaitsFit n waited cs (all c.queues.ready)
      → WaitsFit n (λ g. waits_of s (at (write c.seats.jobs (fiber_of c.seats w) (Some (record { job = j; step = k; worker = None }))) g)) (wait key (fiber_of c.seats w) cs) (all (wait_ready key (fiber_of c.seats w) p cs c.queues.ready))
  wait_fits n w i k j key cs p q e fit =
      let x = running_at s c.seats st.phase h.seats j w i q in
      let f = fiber_of c.seats w in
      let o : Option Held = Some (record { job = j; step = k; worker = None }) in
      let fb = at_some c.seats.jobs f (record { job = j; step = i; worker = Some w }) x.1 in
      waits_wait n waited (λ g. waits_of s (at (write c.seats.jobs f o) g)) cs c.queues.ready f key p fit (ap (waits_of s) x.1) (waits_here s c.seats.jobs f o fb ∙ ap Some e) (λ g m. waits_other s c.seats.jobs f o g m)

  -- worker w's job ends
  pub leave_fits : (n : Counter → ℕ) (w i : ℕ) (j : JobName) (cs : List Row) (r : List ℕ) → st.phase j ≡ Runs w i → WaitsFit n waited cs r → WaitsFit n (λ g. waits_of s (at (write c.seats.jobs (fiber_of c.seats w) None) g)) cs r
  leave_fits n w i j cs r q fit =
      let x = running_at s c.seats st.phase h.seats j w i q in
      let f = fiber_of c.seats w in
      let fb = at_some c.seats.jobs f (record { job = j; step = i; worker = Some w }) x.1 in
      waits_same n n waited _ cs r fit (λ k. refl) (still f None fb (ap (waits_of s) x.1) refl)

  pub hold_fits : (w f : ℕ) → May s st (Hold w (Logic f)) → Fits s (core_after s c (Hold w (Logic f))) (after s st (Hold w (Logic f)))
  hold_fits w f m =
      let q : st.phase (Logic f) ≡ Runs w 0 = m.0 in
      let here = put_here st.phase (Logic f) (Waits 0) in
      let ch = change_running s c.seats st.phase h.seats (put st.phase (Logic f) (Waits 0)) (Logic f) w 0 (Some (record { job = Logic f; step = 0; worker = None })) q refl (ap held here) here tt in
      let num = number_put s st (Logic f) (Waits 0) (sym (ap pending q)) (sym (ap has_spread q)) in
      record {
        stopped = h.stopped;
        emitted = h.emitted;
        queues = queues_put c.queues.fresh st.phase (Logic f) (Waits 0) h.queues (ap queued q) refl;
        seats = seated s st inv (Hold w (Logic f)) m tt c.seats h.seats w (fiber_of c.seats w) (Some (record { job = Logic f; step = 0; worker = None })) ch;
        waits = waits_same (number s st) _ _ _ _ _ (wait_fits (number s st) w 0 0 (Logic f) (Shown (f - s.slots)) c.counters (priority_of (Logic f)) q refl h.waits) num (λ g. refl);
        slots = slots_same s c.slots (number s st) _ h.slots (λ f. num (Shown f));
      }

  pub stop_fits : Fits s (core_after s c Stop) (after s st Stop)
  stop_fits = record {
    stopped = refl;
    emitted = h.emitted;
    queues = h.queues;
    seats = h.seats;
    waits = waits_same (number s st) _ _ _ c.counters (all c.queues.ready) h.waits same_stop (λ g. refl);
    slots = slots_same s c.slots (number s st) _ h.slots (λ f. same_stop (Shown f));
  }
    where
      same_stop : (k : Counter) → number s (after s st Stop) k ≡ number s st k
      same_stop (Thinks f) = refl
      same_stop (Way f a i) = refl
      same_stop (Draws f) = refl
      same_stop (Shown f) = refl
