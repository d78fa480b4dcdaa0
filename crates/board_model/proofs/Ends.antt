-- The end of a job, a question, a Logic that spreads, a frame that is emitted.
use Rattle.std.proofs.Common.{◌≡◌, ◌≤◌, ◌<◌, ℕ, zero, suc, ◌+◌, ◌-◌, ◌%◌, Bool, true, false, ◌&&◌, nat_lt, [], ◌∷◌, Some, None, if◌then◌else◌, refl, sym, ap, ap₂, ◌∙◌, subst, ⊎_elim, arith}
use Rattle.std.proofs.lemmas.Bool.{cases_order}
use Rattle.job_core.specs.declared.names.JobName.{JobName}
use Rattle.job_core.specs.declared.names.JobName.TheVariants.{Logic, Think, Path, Draw}
use Rattle.job_core.specs.declared.names.Event.TheVariants.{Ask, Spread, Finish, Emit}
use Rattle.job_core.specs.Core.{Setup, IsJob, Phase, Absent, Queued, Runs, Waits, Finished, State, held, awaited, Counter, Thinks, Way, Draws, Shown, May, step_of, put, queue, thinks_of, follows, ask, after}
use Rattle.job_core.proofs.ByCases.{by_eq, by_lt}
use Rattle.job_core.proofs.Shape.{Shape, there, logic_next, DrawFits}
use Rattle.job_core.proofs.Moves.{put_here}
use Rattle.board_model.specs.Lists.{bit, at, all}
use Rattle.board_model.specs.Board.{Core, same_counter, seat, fiber_of, raise, lower, woken, wake, priority_of, core_wait, core_end, core_after, put_all, first, step_on}
use Rattle.board_model.specs.Law.{queued, pending, has_spread, number, waits_of, SeatsFit, Fits}
use Rattle.board_model.proofs.Tables.{by_counter, counter_frame, counter_agent, counter_question}
use Rattle.board_model.proofs.Waits.{waits_raise, waits_lower}
use Rattle.board_model.proofs.Seated.{seated}
use Rattle.board_model.proofs.Numbers.{with_phase, number_think, number_draw, number_path, else_think, else_draw, else_path, ask_before, ask_way, ask_else, spread_thinks, spread_before, spread_shown, spread_unshown, spread_else, end_draws, end_before, end_else, emit_before, emit_after, emit_else}
use Rattle.board_model.proofs.Entries.{running_at, change_running, nobody}
use Rattle.board_model.proofs.Queued.{queues_put, queues_more, spread_queued, ask_queued, queues_end}
use Rattle.board_model.proofs.Slots.{slots_same, slots_fill, slots_clear}
use Rattle.board_model.proofs.Events.{wait_fits, leave_fits}

module _ (s : Setup) (st : State) (inv : Shape s st) (c : Core) (h : Fits s c st) where
  -- ---- the end of a job that was counted

  end_fits : (w k : ℕ) (j : JobName) (key : Counter) → st.phase j ≡ Runs w k → SeatsFit s (seat c.seats w (fiber_of c.seats w) None) (put st.phase j Finished) → number s st key ≡ suc (number s (with_phase st (put st.phase j Finished)) key) → ((x : Counter) → (x ≡ key → ⊥) → number s (with_phase st (put st.phase j Finished)) x ≡ number s st x) → ((f : ℕ) → Shown f ≡ key → ⊥) → Fits s (core_end c w key) (with_phase st (put st.phase j Finished))
  end_fits w k j key q seats less rest other = record {
    stopped = h.stopped;
    emitted = h.emitted;
    queues = queues_put c.queues.fresh st.phase j Finished h.queues (ap queued q) refl;
    seats = seats;
    waits = leave_fits s st inv c h (number s (with_phase st (put st.phase j Finished))) w k j (lower key c.counters) (all (wake c.seats.jobs c.queues.ready (woken key c.counters))) q
        (waits_lower (number s st) (number s (with_phase st (put st.phase j Finished))) (λ f. waits_of s (at c.seats.jobs f)) c.counters c.queues.ready key c.seats.jobs h.waits less rest);
    slots = slots_same s c.slots (number s st) _ h.slots (λ f. rest (Shown f) (other f));
  }

  pub think_fits : (w f a : ℕ) → May s st (Finish w (Think f a)) → Fits s (core_after s c (Finish w (Think f a))) (after s st (Finish w (Think f a)))
  think_fits w f a m =
      let here = put_here st.phase (Think f a) Finished in
      let ch = change_running s c.seats st.phase h.seats (put st.phase (Think f a) Finished) (Think f a) w m.0 None m.1 tt (ap held here) tt tt in
      end_fits w m.0 (Think f a) (Thinks f) m.1 (seated s st inv (Finish w (Think f a)) m tt c.seats h.seats w (fiber_of c.seats w) None ch) (number_think s st inv w m.0 f a m.1) (else_think s st inv f a) (λ g e. cc)

  pub path_fits : (w f a i : ℕ) → May s st (Finish w (Path f a i)) → Fits s (core_after s c (Finish w (Path f a i))) (after s st (Finish w (Path f a i)))
  path_fits w f a i m =
      let here = put_here st.phase (Path f a i) Finished in
      let ch = change_running s c.seats st.phase h.seats (put st.phase (Path f a i) Finished) (Path f a i) w m.0 None m.1 tt (ap held here) tt tt in
      end_fits w m.0 (Path f a i) (Way f a i) m.1 (seated s st inv (Finish w (Path f a i)) m tt c.seats h.seats w (fiber_of c.seats w) None ch) (number_path s st inv w m.0 f a i m.1) (else_path s st inv f a i) (λ g e. cc)

  pub draw_fits : (w f b : ℕ) → May s st (Finish w (Draw f b)) → Fits s (core_after s c (Finish w (Draw f b))) (after s st (Finish w (Draw f b)))
  draw_fits w f b m =
      let here = put_here st.phase (Draw f b) Finished in
      let ch = change_running s c.seats st.phase h.seats (put st.phase (Draw f b) Finished) (Draw f b) w m.0 None m.1 tt (ap held here) tt tt in
      end_fits w m.0 (Draw f b) (Draws f) m.1 (seated s st inv (Finish w (Draw f b)) m tt c.seats h.seats w (fiber_of c.seats w) None ch) (number_draw s st inv w m.0 f b m.1) (else_draw s st inv f b) (λ g e. cc)

  -- ---- the end of a Logic

  no_draws : (w k f : ℕ) → st.phase (Logic f) ≡ Runs w k → (j : JobName) (n : ℕ) → st.phase j ≡ Waits n → same_counter (Draws f) (awaited s j n) ≡ false
  no_draws w k f q (Logic g) zero e = refl
  no_draws w k f q (Logic g) (suc n) e = refl
  no_draws w k f q (Think g b) n e = refl
  no_draws w k f q (Path g b i) n e = refl
  no_draws w k f q (Draw g b) n e = by_eq f g (λ x. x ≡ false)
      (λ d. let v : IsJob s (Draw g b) = there s st inv (Draw g b) (λ y. cc) in
      let z : st.phase (Draw g b) ≡ Absent = subst (λ p. DrawFits p (st.phase (Draw g b))) (ap (λ x. st.phase (Logic x)) (sym d) ∙ q) (inv.draw g b v.0 v.1) in absurd cc)
      (λ d. refl)

  pub logic_fits : (w f : ℕ) → May s st (Finish w (Logic f)) → Fits s (core_after s c (Finish w (Logic f))) (after s st (Finish w (Logic f)))
  logic_fits w f m =
      let q : st.phase (Logic f) ≡ Runs w 1 = m.1 ∙ ap (λ k. Runs w k) m.2 in
      let new : JobName → Phase = put (queue st.phase (follows s f)) (Logic f) Finished in
      let here = put_here (queue st.phase (follows s f)) (Logic f) Finished in
      let ch = change_running s c.seats st.phase h.seats (put (queue st.phase (follows s f)) (Logic f) Finished) (Logic f) w 1 None q tt (ap held here) tt tt in
      record {
        stopped = h.stopped;
        emitted = h.emitted;
        queues = queues_end s st inv c.queues.fresh w f h.queues q;
        seats = seated s st inv (Finish w (Logic f)) m tt c.seats h.seats w (fiber_of c.seats w) None ch;
        waits = leave_fits s st inv c h (number s (with_phase st new)) w 1 (Logic f) (raise (Draws f) s.bands c.counters) (all c.queues.ready) q
            (waits_raise (number s st) (number s (with_phase st new)) (λ f. waits_of s (at c.seats.jobs f)) c.counters (all c.queues.ready) (Draws f) s.bands h.waits (end_before s st inv w 1 f q)
            (nobody s c.seats st.phase h.seats (Draws f) (no_draws w 1 f q)) (end_draws s st inv f) (end_else s st inv w f q));
        slots = slots_same s c.slots (number s st) _ h.slots (λ g. end_else s st inv w f q (Shown g) (λ e. cc));
      }

  -- ---- a question

  no_way : (w f a i : ℕ) → st.phase (Think f a) ≡ Runs w i → st.phase (Path f a i) ≡ Absent → (j : JobName) (n : ℕ) → st.phase j ≡ Waits n → same_counter (Way f a i) (awaited s j n) ≡ false
  no_way w f a i q p (Logic g) zero e = refl
  no_way w f a i q p (Logic g) (suc n) e = refl
  no_way w f a i q p (Think g b) n e = by_counter (Way f a i) (Way g b (n - 1)) (λ x. x ≡ false)
      (λ d. let z : st.phase (Think g b) ≡ Runs w i = sym (ap₂ (λ x y. st.phase (Think x y)) (ap counter_frame d) (ap counter_agent d)) ∙ q in absurd cc)
      (λ d. refl)
  no_way w f a i q p (Path g b k) n e = by_counter (Way f a i) (Way g b k) (λ x. x ≡ false)
      (λ d. let z : st.phase (Path g b k) ≡ Absent = ap (λ x. st.phase (Path (counter_frame x) (counter_agent x) (counter_question x))) (sym d) ∙ p in absurd cc)
      (λ d. refl)
  no_way w f a i q p (Draw g b) n e = refl

  ask_at : (w f a i : ℕ) → st.phase (Think f a) ≡ Runs w i → i < s.questions f a → SeatsFit s (seat c.seats w (fiber_of c.seats w) (Some (record { job = Think f a; step = suc i; worker = None }))) (ask st.phase f a i) → Fits s (core_wait c w (Think f a) (suc i) (Way f a i) (put_all c.queues.fresh (Path f a i ∷ [])) (raise (Way f a i) 1 c.counters) c.slots) (with_phase st (ask st.phase f a i))
  ask_at w f a i q l seats =
      let p = ask_before s st inv w f a i q l in
      let before : suc i - 1 ≡ i = omega arith in
      record {
        stopped = h.stopped;
        emitted = h.emitted;
        queues = queues_more c.queues.fresh st.phase (ask st.phase f a i) (Path f a i ∷ []) h.queues (ask_queued s st inv w f a i q p);
        seats = seats;
        waits = wait_fits s st inv c h (number s (with_phase st (ask st.phase f a i))) w i (suc i) (Think f a) (Way f a i) (raise (Way f a i) 1 c.counters) (priority_of (Think f a)) q (ap (Way f a) before)
            (waits_raise (number s st) (number s (with_phase st (ask st.phase f a i))) (λ f. waits_of s (at c.seats.jobs f)) c.counters (all c.queues.ready) (Way f a i) 1 h.waits (ap pending p)
            (nobody s c.seats st.phase h.seats (Way f a i) (no_way w f a i q p)) (ask_way s st inv f a i) (ask_else s st inv w f a i q));
        slots = slots_same s c.slots (number s st) _ h.slots (λ g. ask_else s st inv w f a i q (Shown g) (λ e. cc));
      }

  pub ask_fits : (w f a : ℕ) → May s st (Ask w (Think f a)) → Fits s (core_after s c (Ask w (Think f a))) (after s st (Ask w (Think f a)))
  ask_fits w f a m =
      let i = m.0 in
      let x = running_at s c.seats st.phase h.seats (Think f a) w i m.1 in
      let on : step_on (at c.seats.jobs (fiber_of c.seats w)) ≡ i = ap step_on x.1 in
      let step : step_of (st.phase (Think f a)) ≡ i = ap step_of m.1 in
      let here : ask st.phase f a (step_of (st.phase (Think f a))) (Think f a) ≡ Waits (suc i) = put_here (put st.phase (Path f a (step_of (st.phase (Think f a)))) Queued) (Think f a) (Waits (suc (step_of (st.phase (Think f a))))) ∙ ap (λ y. Waits (suc y)) step in
      let ch = change_running s c.seats st.phase h.seats (ask st.phase f a (step_of (st.phase (Think f a)))) (Think f a) w i (Some (record { job = Think f a; step = suc i; worker = None })) m.1 refl (ap held here) here tt in
      let seats = seated s st inv (Ask w (Think f a)) m tt c.seats h.seats w (fiber_of c.seats w) (Some (record { job = Think f a; step = suc i; worker = None })) ch in
      subst (λ y. Fits s (core_wait c w (Think f a) (suc y) (Way f a y) (put_all c.queues.fresh (Path f a y ∷ [])) (raise (Way f a y) 1 c.counters) c.slots) (with_phase st (ask st.phase f a (step_of (st.phase (Think f a)))))) (sym on)
      (subst (λ y. Fits s (core_wait c w (Think f a) (suc i) (Way f a i) (put_all c.queues.fresh (Path f a i ∷ [])) (raise (Way f a i) 1 c.counters) c.slots) (with_phase st (ask st.phase f a y))) (sym step)
      (ask_at w f a i m.1 m.2 (subst (λ y. SeatsFit s (seat c.seats w (fiber_of c.seats w) (Some (record { job = Think f a; step = suc i; worker = None }))) (ask st.phase f a y)) step seats)))

  -- ---- a Logic that spreads

  no_thinks : (w f : ℕ) → st.phase (Logic f) ≡ Runs w 0 → (j : JobName) (n : ℕ) → st.phase j ≡ Waits n → same_counter (Thinks f) (awaited s j n) ≡ false
  no_thinks w f q (Logic g) zero e = refl
  no_thinks w f q (Logic g) (suc n) e = by_eq f g (λ x. x ≡ false) (λ d. let z : st.phase (Logic g) ≡ Runs w 0 = ap (λ x. st.phase (Logic x)) (sym d) ∙ q in absurd cc) (λ d. refl)
  no_thinks w f q (Think g b) n e = refl
  no_thinks w f q (Path g b i) n e = refl
  no_thinks w f q (Draw g b) n e = refl

  no_shown : (w f : ℕ) → st.phase (Logic f) ≡ Runs w 0 → (j : JobName) (n : ℕ) → st.phase j ≡ Waits n → same_counter (Shown f) (awaited s j n) ≡ false
  no_shown w f q (Logic g) zero e =
      let x = logic_next s st inv f (λ y. cc) (λ y. cc) in
      let y = logic_next s st inv g (λ y. cc) (λ y. cc) in
      let z : st.phase (Logic g) ≡ Runs w 0 = ap (λ x. st.phase (Logic x)) (y ∙ sym x) ∙ q in absurd cc
  no_shown w f q (Logic g) (suc n) e = refl
  no_shown w f q (Think g b) n e = refl
  no_shown w f q (Path g b i) n e = refl
  no_shown w f q (Draw g b) n e = refl

  -- a frame that has spread and isn't emitted
  under_way : (x y : Bool) → bit (x && y) ≡ 1 → (x ≡ true) × (y ≡ true)
  under_way true true e = (refl, refl)
  under_way true false e = absurd (omega arith)
  under_way false y e = absurd (omega arith)

  above : (g : ℕ) → nat_lt st.emitted g ≡ true → st.emitted < g
  above g = by_lt st.emitted g (λ b. b ≡ true → st.emitted < g) (λ l t. l) (λ l t. absurd cc)

  unspread : (p : Phase) → has_spread p ≡ true → p ≡ Absent → ⊥
  unspread p e d = let z : has_spread p ≡ false = ap has_spread d in absurd cc

  pub near : (w f : ℕ) → st.phase (Logic f) ≡ Runs w 0 → f ≤ st.emitted + s.slots → (g : ℕ) → number s st (Shown g) ≡ 1 → (g < f) × (f < g + s.slots)
  near w f q room g u =
      let x = under_way (has_spread (st.phase (Logic g))) (nat_lt st.emitted g) u in
      let l = above g x.1 in
      let n = logic_next s st inv f (λ y. cc) (λ y. cc) in
      let less : g < f = ⊎_elim (λ d. let z : has_spread (st.phase (Logic g)) ≡ false = ap has_spread (ap (λ y. st.phase (Logic y)) d ∙ q) in let y = x.0 in absurd cc)
      (λ o. ⊎_elim (λ y. y) (λ y. absurd (unspread (st.phase (Logic g)) x.0 (inv.late g (omega arith)))) o) (cases_order g f) in
      (less, omega arith)

  pub spread_fits : (w f : ℕ) → f % s.slots < s.slots → May s st (Spread w (Logic f)) → Fits s (core_after s c (Spread w (Logic f))) (after s st (Spread w (Logic f)))
  spread_fits w f bound m =
      let q : st.phase (Logic f) ≡ Runs w 0 = m.0 in
      let here = put_here (queue st.phase (thinks_of s f)) (Logic f) (Waits 1) in
      let st' : State = with_phase st (put (queue st.phase (thinks_of s f)) (Logic f) (Waits 1)) in
      let n : Counter → ℕ = λ x. if same_counter x (Shown f) then 1 else number s st x in
      let ch = change_running s c.seats st.phase h.seats (put (queue st.phase (thinks_of s f)) (Logic f) (Waits 1)) (Logic f) w 0 (Some (record { job = Logic f; step = 1; worker = None })) q refl (ap held here) here tt in
      let one = waits_raise (number s st) n (λ f. waits_of s (at c.seats.jobs f)) c.counters (all c.queues.ready) (Shown f) 1 h.waits (spread_unshown s st inv w f q)
      (nobody s c.seats st.phase h.seats (Shown f) (no_shown w f q))
      (by_counter (Shown f) (Shown f) (λ b. (let y : ℕ = if b then 1 else number s st (Shown f) in y) ≡ 1) (λ d. refl) (λ d. absurd (d refl)))
      (λ x d. by_counter x (Shown f) (λ b. (let y : ℕ = if b then 1 else number s st x in y) ≡ number s st x) (λ e. absurd (d e)) (λ e. refl)) in
      let two = waits_raise n (number s st') (λ f. waits_of s (at c.seats.jobs f)) (raise (Shown f) 1 c.counters) (all c.queues.ready) (Thinks f) s.agents one (spread_before s st inv w f q)
      (nobody s c.seats st.phase h.seats (Thinks f) (no_thinks w f q)) (spread_thinks s st inv f)
      (λ x d. by_counter x (Shown f) (λ b. number s st' x ≡ (let y : ℕ = if b then 1 else number s st x in y)) (λ e. ap (number s st') e ∙ spread_shown s st inv w f q) (λ e. spread_else s st inv f x d e)) in
      record {
        stopped = h.stopped;
        emitted = h.emitted;
        queues = queues_more c.queues.fresh st.phase (put (queue st.phase (thinks_of s f)) (Logic f) (Waits 1)) (first s.agents (λ a. Think f a)) h.queues (spread_queued s st inv w f q);
        seats = seated s st inv (Spread w (Logic f)) m tt c.seats h.seats w (fiber_of c.seats w) (Some (record { job = Logic f; step = 1; worker = None })) ch;
        waits = wait_fits s st inv c h (number s st') w 0 1 (Logic f) (Thinks f) (raise (Thinks f) s.agents (raise (Shown f) 1 c.counters)) (priority_of (Logic f)) q refl two;
        slots = slots_fill s c.slots (number s st) (number s st') f bound h.slots (spread_unshown s st inv w f q) (spread_shown s st inv w f q) (λ g d. spread_else s st inv f (Shown g) (λ e. cc) (λ e. d (ap counter_frame e))) (near w f q m.1);
      }

  -- ---- a frame that is emitted

  pub emit_fits : (f : ℕ) → f % s.slots < s.slots → May s st (Emit f) → Fits s (core_after s c (Emit f)) (after s st (Emit f))
  emit_fits f bound m = record {
    stopped = h.stopped;
    emitted = ap suc h.emitted;
    queues = h.queues;
    seats = h.seats;
    waits = waits_lower (number s st) (number s (after s st (Emit f))) (λ f. waits_of s (at c.seats.jobs f)) c.counters c.queues.ready (Shown f) c.seats.jobs h.waits (emit_before s st inv f m.0 m.2 ∙ sym (ap suc (emit_after s st inv f m.0 m.2))) (emit_else s st inv f m.0);
    slots = slots_clear s c.slots (number s st) (number s (after s st (Emit f))) f bound h.slots (emit_before s st inv f m.0 m.2) (emit_after s st inv f m.0 m.2) (λ g d. emit_else s st inv f m.0 (Shown g) (λ e. d (ap counter_frame e)));
  }
