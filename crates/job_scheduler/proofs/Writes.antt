-- What the scheduler's writes make together is what the event makes of the core.
use Rattle.std.proofs.Common.{◌≡◌, ◌==◌, ◌+◌, ◌%◌, ℕ, zero, suc, true, List, [], ◌∷◌, Option, Some, None, length, map, if◌then◌else◌, add-one, refl, sym, ap, ◌∙◌, arith}
use Rattle.job_core.specs.declared.names.JobName.{JobName}
use Rattle.job_core.specs.declared.names.JobName.TheVariants.{Logic, Think, Path}
use Rattle.job_core.specs.declared.names.Event.TheVariants.{Resume, Ask, Spread}
use Rattle.job_core.specs.Core.{Setup, Counter, Thinks, Way, Shown}
use Rattle.job_core.proofs.ByCases.{by_eq}
use Rattle.board_model.specs.Lists.{at, write, first_place, High, Three, add, take_from}
use Rattle.board_model.specs.Board.{Core, Seats, Held, Row, is_taken, holds, fiber_of, first_row, raise, wait, wait_ready, core_wait, core_after, put_all, first}
use Rattle.job_scheduler.specs.Seats.{holding}
use Rattle.job_scheduler.proofs.Entries.{taken_kept}
use Rattle.job_scheduler.proofs.Rows.{raised_there, absent_raised}

-- a fiber that holds a job stays taken
pub still_taken : (t : Seats) → t.taken ≡ map is_taken t.jobs → (f : ℕ) (held : Held) → at t.jobs f ≡ Some held → write t.taken f true ≡ t.taken
still_taken t table f held e = ap (λ x. write x f true) table ∙ (taken_kept t.jobs f held e ∙ sym table)

-- a fiber that waits for a counter at 0 is ready at once
ready_or_kept : (k : Counter) (n fiber : ℕ) (rows : List Row) (ready : Three ℕ) → first_row k rows ≡ None → (if n == 0 then add High fiber ready else ready) ≡ wait_ready k fiber High (raise k n rows) ready
ready_or_kept k zero fiber rows ready none = rw none refl
ready_or_kept k (suc n) fiber rows ready none = by_eq (suc n) 0 (λ b. (if b then add High fiber ready else ready) ≡ wait_ready k fiber High (raise k (suc n) rows) ready) (λ z. absurd (omega arith)) (λ _. rw (raised_there k n rows none) refl)

module _ (c : Core) (table : c.seats.taken ≡ map is_taken c.seats.jobs) where
  pub resumed : (s : Setup) (w f : ℕ) (job : JobName) (held : Held) → first_place (holds job) c.seats.jobs ≡ f → at c.seats.jobs f ≡ Some held
      → holding (record c { queues = record { fresh = c.queues.fresh; ready = take_from (λ g. f == g) c.queues.ready } }) w f (Some (record { job = held.job; step = held.step; worker = Some w })) ≡ core_after s c (Resume w job)
  resumed s w f job held e a = rw (e, a, still_taken c.seats table f held a) refl

  pub waited : (w : ℕ) (job : JobName) (step : ℕ) (k : Counter) (fresh : Three JobName) (rows : List Row) (slots : List (Option ℕ)) (held : Held) (row : Row) → at c.seats.jobs (fiber_of c.seats w) ≡ Some held → first_row k rows ≡ Some row
      → holding (record c { queues = record { fresh = fresh; ready = c.queues.ready }; counters = wait k (fiber_of c.seats w) rows; slots = slots }) w (fiber_of c.seats w) (Some (record { job = job; step = step; worker = None })) ≡ core_wait c w job step k fresh rows slots
  waited w job step k fresh rows slots held row a r = rw (r, still_taken c.seats table (fiber_of c.seats w) held a) refl

  pub asked : (s : Setup) (w frame agent question : ℕ) (held : Held) → at c.seats.jobs (fiber_of c.seats w) ≡ Some held → held.step ≡ question → first_row (Way frame agent question) c.counters ≡ None
      → holding (record c { queues = record { fresh = put_all c.queues.fresh (Path frame agent question ∷ []); ready = c.queues.ready }; counters = wait (Way frame agent question) (fiber_of c.seats w) (raise (Way frame agent question) 1 c.counters) }) w (fiber_of c.seats w) (Some (record { job = Think frame agent; step = question + 1; worker = None })) ≡ core_after s c (Ask w (Think frame agent))
  asked s w frame agent question held a e n = rw (a, e, raised_there (Way frame agent question) 0 c.counters n, still_taken c.seats table (fiber_of c.seats w) held a, add-one) refl

  pub spread : (s : Setup) (w frame agents : ℕ) (held : Held) → at c.seats.jobs (fiber_of c.seats w) ≡ Some held → first_row (Thinks frame) c.counters ≡ None
      → s.slots ≡ length c.slots → s.agents ≡ agents
      → holding (record c {
        queues = record { fresh = put_all c.queues.fresh (first agents (Think frame)); ready = if agents == 0 then add High (fiber_of c.seats w) c.queues.ready else c.queues.ready };
        counters = wait (Thinks frame) (fiber_of c.seats w) (raise (Thinks frame) agents (raise (Shown frame) 1 c.counters));
        slots = write c.slots (frame % length c.slots) (Some frame);
      }) w (fiber_of c.seats w) (Some (record { job = Logic frame; step = 1; worker = None })) ≡ core_after s c (Spread w (Logic frame))
  spread s w frame agents held a n sized many =
      let absent : first_row (Thinks frame) (raise (Shown frame) 1 c.counters) ≡ None = absent_raised (Thinks frame) (Shown frame) 1 c.counters (λ e. cc) n in
      rw (ready_or_kept (Thinks frame) agents (fiber_of c.seats w) (raise (Shown frame) 1 c.counters) c.queues.ready absent, still_taken c.seats table (fiber_of c.seats w) held a, ← many, ← sized) refl
