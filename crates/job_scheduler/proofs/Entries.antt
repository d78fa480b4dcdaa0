-- Entries of the tables, in std's words, and the table of taken fibers.
use Rattle.std.proofs.Common.{◌≡◌, ◌<◌, ◌≤◌, ◌+◌, ℕ, zero, suc, Bool, true, position, if◌then◌else◌, List, [], ◌∷◌, Option, Some, None, IsSome, IsSomeAnd, length, map, slice_get, slice_index_or, refl, sym, ap, ◌∙◌, arith}
use Rattle.board_model.specs.Lists.{at, write, bit, has, tally}
use Rattle.board_model.specs.Board.{Held, Seats, Core, is_taken, fiber_of, or_zero, holds}
use Rattle.board_model.specs.Passes.{on_fiber, RunsAt}
use Rattle.board_model.proofs.Kit.{at_some, by_bool}
use Rattle.job_queues.specs.Places.{IsFirstPlace}
use Rattle.job_queues.proofs.Places.{first_place_found}
use Rattle.job_queues.proofs.Pools.{first_found}
use Rattle.job_scheduler.specs.Seats.{IsHolder}
use Rattle.job_core.specs.declared.names.JobName.{JobName}

pub at_in : {X : Type 0} (xs : List (Option X)) (i : ℕ) (d : Option X) → i < length xs → at xs i ≡ slice_index_or xs i d
at_in [] i d l = absurd (omega arith)
at_in (x ∷ xs) zero d l = refl
at_in (x ∷ xs) (suc i) d l = at_in xs i d (omega arith)

pub at_out : {X : Type 0} (xs : List (Option X)) (i : ℕ) → length xs ≤ i → at xs i ≡ None
at_out [] i l = refl
at_out (x ∷ xs) zero l = absurd (omega arith)
at_out (x ∷ xs) (suc i) l = at_out xs i (omega arith)

-- a fiber that holds a job stays taken
pub taken_kept : (jobs : List (Option Held)) (f : ℕ) (held : Held) → at jobs f ≡ Some held → write (map is_taken jobs) f true ≡ map is_taken jobs
taken_kept [] f held e = refl
taken_kept (j ∷ js) zero held e = ap (λ b. b ∷ map is_taken js) (sym (ap is_taken e))
taken_kept (j ∷ js) (suc f) held e = ap (λ l. is_taken j ∷ l) (taken_kept js f held e)

-- ---- a worker that runs a job

module _ (t : Seats) (worker : ℕ) where
  on_fiber_is : (o : Option ℕ) (held : Held) → at t.workers worker ≡ o → on_fiber t o ≡ Some held → at t.jobs (fiber_of t worker) ≡ Some held
  on_fiber_is None held s e = absurd cc
  on_fiber_is (Some f) held s e = ap (λ o. at t.jobs (or_zero o)) s ∙ e

  worker_known : (o : Option ℕ) (held : Held) → at t.workers worker ≡ o → on_fiber t o ≡ Some held → worker < length t.workers
  worker_known None held s e = absurd cc
  worker_known (Some f) held s e = at_some t.workers worker f s

  -- its fiber holds the job, and both are in their tables
  pub run_held : (job : JobName) (step : ℕ) (r : RunsAt t worker job step) → at t.jobs (fiber_of t worker) ≡ Some r.0
  run_held job step r = on_fiber_is (at t.workers worker) r.0 refl r.1

  pub run_worker : (job : JobName) (step : ℕ) → RunsAt t worker job step → worker < length t.workers
  run_worker job step r = worker_known (at t.workers worker) r.0 refl r.1

  pub run_fiber : (job : JobName) (step : ℕ) → RunsAt t worker job step → fiber_of t worker < length t.jobs
  run_fiber job step r = at_some t.jobs (fiber_of t worker) r.0 (run_held job step r)

-- the fiber of a worker, on the board as a method has opened it
module _ {now inside : Core} (same : inside ≡ now) (worker : ℕ) {fiber : ℕ} (e : fiber ≡ fiber_of now.seats worker) where
  pub fiber_inside : fiber ≡ fiber_of inside.seats worker
  fiber_inside = e ∙ ap (λ (m : Core). fiber_of m.seats worker) (sym same)

  pub fiber_known : fiber_of now.seats worker < length now.seats.jobs → fiber < length inside.seats.jobs
  fiber_known below = rw (e, same) below

pub is_some_case : {X : Type 0} (o : Option X) → IsSome o → (x : X) × (o ≡ Some x)
is_some_case None h = absurd cc
is_some_case (Some x) h = (x, refl)

pub slice_taken : (jobs : List (Option Held)) (f : ℕ) (held : Held) → at jobs f ≡ Some held → slice_get (map is_taken jobs) f ≡ Some true
slice_taken [] f held e = absurd cc
slice_taken (j ∷ js) zero held e = ap (λ o. Some (is_taken o)) e
slice_taken (j ∷ js) (suc f) held e = slice_taken js f held e

-- a worker that runs some job
module _ (t : Seats) (worker : ℕ) (busy : IsSome (on_fiber t (at t.workers worker))) where
  pub busy_worker : worker < length t.workers
  busy_worker = let h = is_some_case (on_fiber t (at t.workers worker)) busy in worker_known t worker (at t.workers worker) h.0 refl h.1

  pub busy_held : (held : Held) × (at t.jobs (fiber_of t worker) ≡ Some held)
  busy_held = let h = is_some_case (on_fiber t (at t.workers worker)) busy in (h.0, on_fiber_is t worker (at t.workers worker) h.0 refl h.1)

  pub busy_fiber : fiber_of t worker < length t.jobs
  busy_fiber = at_some t.jobs (fiber_of t worker) busy_held.0 busy_held.1

  pub busy_taken : t.taken ≡ map is_taken t.jobs → slice_get t.taken (fiber_of t worker) ≡ Some true
  busy_taken table = ap (λ x. slice_get x (fiber_of t worker)) table ∙ slice_taken t.jobs (fiber_of t worker) busy_held.0 busy_held.1

pub some_case : {X G : Type 0} {P : X → Type 0} (o : Option X) → IsSomeAnd o P → ((x : X) → o ≡ Some x → P x → G) → G
some_case None h g = absurd h
some_case (Some x) h g = g x refl h

-- ---- the fiber that holds a job

pub has_tally : {X : Type 0} (p : X → Bool) (xs : List X) → has p xs ≡ true → 0 < tally p xs
has_tally p [] e = absurd cc
has_tally p (x ∷ xs) e = by_bool (p x) (λ b. (if b then true else has p xs) ≡ true → 0 < bit b + tally p xs) (λ _ t. omega arith) (λ _ t. let h = has_tally p xs t in omega arith) e

pub tally_has : {X : Type 0} (p : X → Bool) (xs : List X) → 0 < tally p xs → has p xs ≡ true
tally_has p [] l = absurd (omega arith)
tally_has p (x ∷ xs) l = by_bool (p x) (λ b. 0 < bit b + tally p xs → (if b then true else has p xs) ≡ true) (λ _ t. refl) (λ _ t. tally_has p xs (omega arith)) l

pub holder_at : (job : JobName) (jobs : List (Option Held)) (place : ℕ) → Some place ≡ position (holds job) jobs → place < length jobs → IsHolder job jobs place
holder_at job jobs place e l = record { first = sym (first_found (holds job) jobs place e); there = there (position (holds job) jobs) (first_place_found (holds job) jobs) (sym e); bound = l }
  where
    there : (o : Option ℕ) → IsFirstPlace (holds job) jobs o → o ≡ Some place → 0 < tally (holds job) jobs
    there None h n = absurd cc
    there (Some i) h n = has_tally (holds job) jobs h.there
