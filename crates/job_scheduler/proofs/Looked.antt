-- What the scheduler's answers say of the state.
use Rattle.std.proofs.Common.{◌≡◌, ◌≤◌, ◌<◌, ◌==◌, ℕ, suc, Bool, true, false, Option, Some, None, is_some, refl, sym, ap, ◌∙◌, subst, arith}
use Rattle.job_core.specs.declared.names.JobName.{JobName}
use Rattle.job_core.specs.declared.names.JobName.TheVariants.{Logic}
use Rattle.job_core.specs.declared.names.Event.TheVariants.{Start, Resume, Emit}
use Rattle.job_core.specs.Core.{Setup, State, Runs, Waits, Finished, Draws, Shown, held, IsIdle, IsReady, IsLegal, IsLegalList, opening, same}
use Rattle.job_core.proofs.ByCases.{by_same}
use Rattle.job_core.proofs.Shape.{Shape, opens, logic_done}
use Rattle.job_core.proofs.Moves.{shape_of}
use Rattle.board_model.specs.Lists.{tally, at, first_place, all, has}
use Rattle.board_model.specs.Board.{Core, Held, Seats, has_fiber, holds, first_row, runner}
use Rattle.board_model.specs.Law.{standing, StandsAs, Fits}
use Rattle.board_model.specs.Passes.{on_fiber, RunsAt}
use Rattle.board_model.specs.Pick.{Ready, New, given}
use Rattle.board_model.proofs.Entries.{standing_waits}
use Rattle.board_model.proofs.Kit.{place_found}
use Rattle.board_model.proofs.Legal.{is_idle, fiber_is, fresh_is, none_is_legal, start_is_legal, fiber_is_ready, stands_not}
use Rattle.board_model.proofs.Numbers.{emit_before}
use Rattle.board_model.proofs.Needs.{picked_is}
use Rattle.board_model.proofs.Passing.{runs_at, passes_may, may_passes}
use Rattle.board_model.proofs.Fit.{fits}
use Rattle.job_scheduler.specs.Seats.{IsHolder}
use Rattle.job_scheduler.proofs.Entries.{has_tally, tally_has}
use Rattle.job_scheduler.specs.Logged.{Logged, setup_of, reached, IsKept}
use Rattle.job_scheduler.specs.Looks.{IsOn}
use Rattle.job_scheduler.specs.Turns.{turned_after}
use Rattle.job_scheduler.proofs.Turns.{turned_is}

same_is : (i j : JobName) → same i j ≡ true → i ≡ j
same_is i j e = by_same i j (λ b. b ≡ true → i ≡ j) (λ y _. y) (λ n f. absurd cc) e

-- what lies on the fiber that a worker runs is run by that worker
held_runs : (t : Seats) (w : ℕ) (held : Held) (o : Option ℕ) → ((f : ℕ) → o ≡ Some f → runner (at t.jobs f) ≡ Some w) → Some held ≡ on_fiber t o → held.worker ≡ Some w
held_runs t w held None runs e = absurd cc
held_runs t w held (Some f) runs e = subst (λ x. runner x ≡ Some w) (sym e) (runs f refl)

module _ (v : Logged) (c : Core) (now capacity : ℕ) (k : IsKept v c now capacity) (q : ℕ → ℕ → ℕ) (l : IsLegalList (setup_of v q) v.events) where
  abbrev s : Setup
  s = setup_of v q

  abbrev st : State
  st = reached v q

  a_slot : 0 < s.slots
  a_slot = let a = k.within.a_slot in omega arith

  inv : Shape (setup_of v q) (reached v q)
  inv = shape_of (setup_of v q) v.events (opening (setup_of v q)) (opens (setup_of v q)) l

  pub fit : Fits (setup_of v q) c (reached v q)
  fit = subst (λ x. Fits (setup_of v q) x (reached v q)) (sym (k.core q)) (fits (setup_of v q) v.events a_slot l)

  pub stop_is : (b : Bool) → b ≡ c.stopped → (reached v q).stopped ≡ b
  stop_is b e = sym (e ∙ fit.stopped)

  pub emitted_is : c.emitted ≡ (reached v q).emitted
  emitted_is = fit.emitted

  pub runs_where : (w : ℕ) (j : JobName) (i : ℕ) → (reached v q).phase j ≡ Runs w i → RunsAt c.seats w j i
  runs_where w j i p = (runs_at s st inv c fit a_slot w j i).1 p

  pub phase_where : (w : ℕ) (held : Held) → Some held ≡ on_fiber c.seats (at c.seats.workers w) → (reached v q).phase held.job ≡ Runs w held.step
  phase_where w held e = (runs_at s st inv c fit a_slot w held.job held.step).0 (held, sym e, refl, refl)

  pub worker_where : (w : ℕ) (held : Held) → Some held ≡ on_fiber c.seats (at c.seats.workers w) → held.worker ≡ Some w
  worker_where w held e = held_runs c.seats w held (at c.seats.workers w) (λ f is. fit.seats.runs w f is) e

  pub idle_where : (w : ℕ) → None ≡ on_fiber c.seats (at c.seats.workers w) → IsIdle (reached v q) w
  idle_where w e = λ j i p. let r = runs_where w j i p in let z : None ≡ Some r.0 = e ∙ r.1 in cc

  pub busy_where : (w : ℕ) (held : Held) → Some held ≡ on_fiber c.seats (at c.seats.workers w) → IsIdle (reached v q) w → ⊥
  busy_where w held e i = i held.job held.step (phase_where w held e)

  pub busy_some : (w : ℕ) (o : Option Held) → o ≡ on_fiber c.seats (at c.seats.workers w) → is_some o ≡ true → IsIdle (reached v q) w → ⊥
  busy_some w None e s = absurd cc
  busy_some w (Some held) e s = busy_where w held e

  pub idle_none : (w : ℕ) (o : Option Held) → o ≡ on_fiber c.seats (at c.seats.workers w) → is_some o ≡ false → IsIdle (reached v q) w
  idle_none w None e s = idle_where w e
  idle_none w (Some held) e s = absurd cc

  -- ---- what is given

  module _ (w : ℕ) (on : IsOn (setup_of v q) (reached v q) w) (idle : IsIdle (reached v q) w) where
    pub none_given : None ≡ given c → (j : JobName) → (IsLegal (setup_of v q) (reached v q) (Start w j) → ⊥) × (IsLegal (setup_of v q) (reached v q) (Resume w j) → ⊥)
    none_given e = none_is_legal s st inv c fit a_slot on.0 w on.1 idle (sym e)

    pub start_given : (j : JobName) → Some (New j) ≡ given c → IsLegal (setup_of v q) (reached v q) (Start w j)
    start_given j e = start_is_legal s st inv c fit a_slot on.0 w on.1 idle j (sym e)

    module _ (f : ℕ) (e : Some (Ready f) ≡ given c) where
      pub no_fiber : at c.seats.jobs f ≡ None → ⊥
      no_fiber n = let r = fiber_is_ready s st inv c fit a_slot on.0 w on.1 idle f (sym e) in let z = sym n ∙ r.1 in cc

      module _ (held : Held) (there : at c.seats.jobs f ≡ Some held) where
        pub resume_given : IsLegal (setup_of v q) (reached v q) (Resume w held.job)
        resume_given =
            let r = fiber_is_ready s st inv c fit a_slot on.0 w on.1 idle f (sym e) in
            let both : Some r.0 ≡ Some held = sym r.1 ∙ there in
            let one : r.0 ≡ held = cc in
            (on.0, (on.1, idle, subst (λ (x : Held). IsReady s st x.job) one r.2))

        pub resume_step : (held.worker ≡ None) × ((reached v q).phase held.job ≡ Waits held.step)
        resume_step =
            let ready = resume_given.1.2 in
            let stands : (reached v q).phase held.job ≡ standing held.worker held.step = subst (StandsAs (reached v q).phase) there (fit.seats.stands f) in
            let waits = standing_waits held.worker held.step ready.0 (sym stands ∙ ready.1) in
            (waits.0, ready.1 ∙ ap Waits (sym waits.1))

        pub resume_place : first_place (holds held.job) c.seats.jobs ≡ f
        resume_place = picked_is s st inv c fit f held there

  -- ---- what is shown

  module _ (t : ℕ) (is : t ≡ turned_after 0 v.events) where
    ended_all : inv.turned ≡ t
    ended_all = turned_is (setup_of v q) v.events l inv ∙ sym is

    pub show_legal : (f : ℕ) → (reached v q).stopped ≡ false → f ≡ suc c.emitted → f ≤ v.numbers.frames → f ≤ t → first_row (Draws f) c.counters ≡ None → IsLegal (setup_of v q) (reached v q) (Emit f)
    show_legal f on e small over drawn =
        let many = ended_all in
        let done : (reached v q).phase (Logic f) ≡ Finished = inv.early f (omega arith) (omega arith) in
        let next : f ≡ suc (reached v q).emitted = e ∙ ap suc emitted_is in
        let there : first_row (Shown f) c.counters ≡ None → ⊥ = λ n. let a = (stands_not s st inv c fit (Shown f)).0 n in let b = emit_before s st inv f next done in omega arith in
        (on, passes_may s st inv c fit a_slot (Emit f) (e, small, there, fit.seats.once (Logic f) ∙ ap held done, drawn))

    pub show_only : (f : ℕ) → IsLegal (setup_of v q) (reached v q) (Emit f) → (f ≡ suc c.emitted) × (f ≤ v.numbers.frames) × (f ≤ t) × (first_row (Draws f) c.counters ≡ None)
    show_only f m =
        let many = ended_all in
        let p = may_passes s st inv c fit a_slot (Emit f) m.1 in
        let done = logic_done s st inv f p.1 m.1.2 in
        (p.0, p.1, omega arith, p.4)

  -- ---- what may start, and what may go on

  module _ (w : ℕ) (j : JobName) where
    pub start_legal : IsOn (setup_of v q) (reached v q) w × IsIdle (reached v q) w → has (same j) (all c.queues.fresh) ≡ true → has_fiber c.seats j ≡ true
        → IsLegal (setup_of v q) (reached v q) (Start w j)
    start_legal on queued enough = (on.0.0, (on.0.1, on.1, (fresh_is s st inv c fit j).0 (has_tally (same j) (all c.queues.fresh) queued), (fiber_is s st inv c fit j).0 enough))

    pub start_queued : IsLegal (setup_of v q) (reached v q) (Start w j) → has (same j) (all c.queues.fresh) ≡ true
    start_queued m = tally_has (same j) (all c.queues.fresh) (may_passes s st inv c fit a_slot (Start w j) m.1).1

    pub start_fiber : IsLegal (setup_of v q) (reached v q) (Start w j) → has_fiber c.seats j ≡ true
    start_fiber m = (may_passes s st inv c fit a_slot (Start w j) m.1).2

    pub resume_holder : IsLegal (setup_of v q) (reached v q) (Resume w j) → 0 < tally (holds j) c.seats.jobs
    resume_holder m = (may_passes s st inv c fit a_slot (Resume w j) m.1).1

    module _ (f : ℕ) (h : IsHolder j c.seats.jobs f) where
      pub resume_ready : IsLegal (setup_of v q) (reached v q) (Resume w j) → has (λ other. f == other) (all c.queues.ready) ≡ true
      resume_ready m = tally_has (λ other. f == other) (all c.queues.ready) (subst (λ g. 0 < tally (λ other. g == other) (all c.queues.ready)) h.first (may_passes s st inv c fit a_slot (Resume w j) m.1).2)

      pub resume_legal : IsOn (setup_of v q) (reached v q) w × IsIdle (reached v q) w → has (λ other. f == other) (all c.queues.ready) ≡ true
          → IsLegal (setup_of v q) (reached v q) (Resume w j)
      resume_legal on ready = (
        on.0.0,
        passes_may s st inv c fit a_slot (Resume w j) (
          (on.0.1, (is_idle s st inv c fit w).1 on.1),
          h.there,
          subst (λ g. 0 < tally (λ other. g == other) (all c.queues.ready)) (sym h.first) (has_tally (λ other. f == other) (all c.queues.ready) ready),
        ),
      )

      at_holder : holds j (at c.seats.jobs f) ≡ true
      at_holder = subst (λ g. holds j (at c.seats.jobs g) ≡ true) h.first (place_found (holds j) c.seats.jobs h.there).1

      pub holder_there : None ≡ at c.seats.jobs f → ⊥
      holder_there e = let z = ap (holds j) e ∙ at_holder in cc

      pub resume_stands : (held : Held) → Some held ≡ at c.seats.jobs f → IsLegal (setup_of v q) (reached v q) (Resume w j) → (held.worker ≡ None) × ((reached v q).phase j ≡ Waits held.step)
      resume_stands held e m =
          let is_job : held.job ≡ j = sym (same_is j held.job (ap (holds j) e ∙ at_holder)) in
          let stands : (reached v q).phase held.job ≡ standing held.worker held.step = subst (StandsAs (reached v q).phase) (sym e) (fit.seats.stands f) in
          let ready = m.1.2 in
          let waits = standing_waits held.worker held.step ready.0 (sym stands ∙ (ap (reached v q).phase is_job ∙ ready.1)) in
          (waits.0, ready.1 ∙ ap Waits (sym waits.1))
