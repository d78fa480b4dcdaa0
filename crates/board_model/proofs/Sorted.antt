-- Each of the three queues holds what is of its priority, after each legal log.
use Rattle.std.proofs.Common.{◌≡◌, ◌<◌, ℕ, zero, suc, ◌+◌, ◌-◌, Bool, false, ◌==◌, List, [], ◌∷◌, ◌++◌, Option, Some, None, if◌then◌else◌, refl, sym, ap, ◌∙◌, arith}
use Rattle.job_core.specs.declared.names.JobName.{JobName}
use Rattle.job_core.specs.declared.names.JobName.TheVariants.{Logic, Think, Path, Draw}
use Rattle.job_core.specs.declared.names.Event.{Event}
use Rattle.job_core.specs.declared.names.Event.TheVariants.{Start, Resume, Ask, Spread, Hold, Finish, Emit, Stop}
use Rattle.job_core.specs.Core.{Setup, State, Runs, same, size_of, Counter, Thinks, Way, Draws, Shown, May, after, opening, IsLegalFrom, IsLegalList}
use Rattle.job_core.proofs.ByCases.{by_eq}
use Rattle.job_core.proofs.Shape.{Shape, keeps, opens}
use Rattle.board_model.specs.Lists.{bit, tally, at, write, has, drop_first, first_place, Priority, High, Normal, Low, Three, all, none, add, take_from}
use Rattle.board_model.specs.Board.{Core, Held, Row, priority_of, priority_on, put_all, first, next_logic, first_row, raise, woken, unless_kept, wait_ready, wake, lowest, fiber_of, holds, step_on, by_worker, core_end, core_after, core_opening, core_from, core_of}
use Rattle.board_model.specs.Law.{number, waits_of, is_ready, Fits}
use Rattle.board_model.proofs.Kit.{by_bool, at_other, all_parts, taken_by}
use Rattle.board_model.proofs.Entries.{running_at}
use Rattle.board_model.proofs.Opening.{opening_fits}
use Rattle.board_model.proofs.Fit.{step_fits}

-- each item is of this priority
abbrev pub Only : {X : Type 0} → (X → Priority) → Priority → List X → Type 0
Only of p [] = Unit {0}
Only of p (x ∷ xs) = (of x ≡ p) × Only of p xs

abbrev pub IsSortedBy : {X : Type 0} → (X → Priority) → Three X → Type 0
IsSortedBy of t = Only of High t.high × Only of Normal t.normal × Only of Low t.low

-- new jobs stand by their own priority, fibers by that of the job that they hold
pub record IsSorted (c : Core) : Type 0 where
  pub fresh : IsSortedBy priority_of c.queues.fresh
  pub ready : IsSortedBy (λ f. priority_on (at c.seats.jobs f)) c.queues.ready

-- ---- queues

only_append : {X : Type 0} (of : X → Priority) (p : Priority) (xs ys : List X) → Only of p xs → Only of p ys → Only of p (xs ++ ys)
only_append of p [] ys a b = b
only_append of p (x ∷ xs) ys a b = (a.0, only_append of p xs ys a.1 b)

only_drop : {X : Type 0} (of : X → Priority) (p : Priority) (q : X → Bool) (xs : List X) → Only of p xs → Only of p (drop_first q xs)
only_drop of p q [] a = tt
only_drop of p q (x ∷ xs) a = by_bool (q x) (λ b. Only of p (if b then xs else (x ∷ drop_first q xs))) (λ e. a.1) (λ e. (a.0, only_drop of p q xs a.1))

sorted_add : {X : Type 0} (of : X → Priority) (r : Priority) (x : X) (t : Three X) → of x ≡ r → IsSortedBy of t → IsSortedBy of (add r x t)
sorted_add of High x t e h = (only_append of High t.high (x ∷ []) h.0 (e, tt), h.1, h.2)
sorted_add of Normal x t e h = (h.0, only_append of Normal t.normal (x ∷ []) h.1 (e, tt), h.2)
sorted_add of Low x t e h = (h.0, h.1, only_append of Low t.low (x ∷ []) h.2 (e, tt))

sorted_take : {X : Type 0} (of : X → Priority) (q : X → Bool) (t : Three X) → IsSortedBy of t → IsSortedBy of (take_from q t)
sorted_take {X} of q t h = by_bool (has q t.high) (λ b. IsSortedBy of (taken_by q t b (has q t.normal)))
    (λ e. (only_drop of High q t.high h.0, h.1, h.2))
    (λ e. by_bool (has q t.normal) (λ b. IsSortedBy of (taken_by q t false b))
    (λ f. (h.0, only_drop of Normal q t.normal h.1, h.2))
    (λ f. (h.0, h.1, only_drop of Low q t.low h.2)))

sorted_put_all : (t : Three JobName) (js : List JobName) → IsSortedBy priority_of t → IsSortedBy priority_of (put_all t js)
sorted_put_all t [] h = h
sorted_put_all t (j ∷ js) h = sorted_put_all (add (priority_of j) j t) js (sorted_add priority_of (priority_of j) j t refl h)

sorted_wake : (jobs : List (Option Held)) (t : Three ℕ) (fs : List ℕ) → IsSortedBy (λ g. priority_on (at jobs g)) t → IsSortedBy (λ g. priority_on (at jobs g)) (wake jobs t fs)
sorted_wake jobs t [] h = h
sorted_wake jobs t (f ∷ fs) h = sorted_wake jobs (add (priority_on (at jobs f)) f t) fs (sorted_add (λ g. priority_on (at jobs g)) (priority_on (at jobs f)) f t refl h)

sorted_unless : (of : ℕ → Priority) (o : Option Row) (f : ℕ) (p : Priority) (t : Three ℕ) → of f ≡ p → IsSortedBy of t → IsSortedBy of (unless_kept o f p t)
sorted_unless of None f p t e h = sorted_add of p f t e h
sorted_unless of (Some c) f p t e h = h

-- ---- a change of one entry

only_as : (of new : ℕ → Priority) (p : Priority) (xs : List ℕ) → ((g : ℕ) → new g ≡ of g) → Only of p xs → Only new p xs
only_as of new p [] s h = tt
only_as of new p (x ∷ xs) s h = (s x ∙ h.0, only_as of new p xs s h.1)

sorted_as : (of new : ℕ → Priority) (t : Three ℕ) → ((g : ℕ) → new g ≡ of g) → IsSortedBy of t → IsSortedBy new t
sorted_as of new t s h = (only_as of new High t.high s h.0, only_as of new Normal t.normal s h.1, only_as of new Low t.low s h.2)

only_but : (of new : ℕ → Priority) (f : ℕ) (p : Priority) (xs : List ℕ) → ((g : ℕ) → (g ≡ f → ⊥) → new g ≡ of g) → tally (λ g. f == g) xs ≡ 0 → Only of p xs → Only new p xs
only_but of new f p [] s z h = tt
only_but of new f p (x ∷ xs) s z h = by_eq f x (λ b. bit b + tally (λ g. f == g) xs ≡ 0 → Only new p (x ∷ xs))
    (λ d y. absurd (omega arith))
    (λ n y. (s x (λ d. n (sym d)) ∙ h.0, only_but of new f p xs s (omega arith) h.1)) z

sorted_but : (of new : ℕ → Priority) (f : ℕ) (t : Three ℕ) → ((g : ℕ) → (g ≡ f → ⊥) → new g ≡ of g) → tally (λ g. f == g) (all t) ≡ 0 → IsSortedBy of t → IsSortedBy new t
sorted_but of new f t s z h =
    let a = all_parts (λ g. f == g) t in
    (only_but of new f High t.high s (omega arith) h.0, only_but of new f Normal t.normal s (omega arith) h.1, only_but of new f Low t.low s (omega arith) h.2)

-- the entry keeps its priority
priority_kept : (jobs : List (Option Held)) (f : ℕ) (o : Option Held) → priority_on o ≡ priority_on (at jobs f) → (g : ℕ) → priority_on (at (write jobs f o) g) ≡ priority_on (at jobs g)
priority_kept (x ∷ xs) zero o e zero = e
priority_kept (x ∷ xs) (suc f) o e (suc g) = priority_kept xs f o e g
priority_kept _ _ o e _ = refl

by_worker_kept : (w : ℕ) (o : Option Held) → priority_on (by_worker w o) ≡ priority_on o
by_worker_kept w None = refl
by_worker_kept w (Some h) = refl

-- or its fiber stands in no queue
sorted_leave : (jobs : List (Option Held)) (f : ℕ) (o : Option Held) (t : Three ℕ) → tally (λ g. f == g) (all t) ≡ 0 → IsSortedBy (λ g. priority_on (at jobs g)) t → IsSortedBy (λ g. priority_on (at (write jobs f o) g)) t
sorted_leave jobs f o t z h = sorted_but (λ g. priority_on (at jobs g)) (λ g. priority_on (at (write jobs f o) g)) f t (λ g n. ap priority_on (at_other jobs f g o n)) z h

waits_written : (s : Setup) (jobs : List (Option Held)) (f : ℕ) (o : Option Held) → waits_of s o ≡ None → waits_of s (at (write jobs f o) f) ≡ None
waits_written s [] f o e = refl
waits_written s (x ∷ xs) zero o e = e
waits_written s (x ∷ xs) (suc f) o e = waits_written s xs f o e

-- a fiber that waits for nothing is not ready
nowhere : (s : Setup) (c : Core) (st : State) → Fits s c st → (f : ℕ) → waits_of s (at c.seats.jobs f) ≡ None → tally (λ g. f == g) (all c.queues.ready) ≡ 0
nowhere s c st h f e = h.waits.ready f ∙ ap (λ o. bit (is_ready (number s st) o)) e

-- ---- event by event

module _ (s : Setup) (c : Core) (st : State) (p : 0 < s.slots) (inv : Shape s st) (fit : Fits s c st) (h : IsSorted c) where
  -- worker w's job, which runs, waits
  sorted_wait : (w i : ℕ) (j : JobName) (k : ℕ) (key : Counter) (cs : List Row) → st.phase j ≡ Runs w i
      → IsSortedBy (λ g. priority_on (at (write c.seats.jobs (fiber_of c.seats w) (Some (record { job = j; step = k; worker = None }))) g)) (wait_ready key (fiber_of c.seats w) (priority_of j) cs c.queues.ready)
  sorted_wait w i j k key cs q =
      let entry : priority_on (at c.seats.jobs (fiber_of c.seats w)) ≡ priority_of j = ap priority_on (running_at s c.seats st.phase fit.seats j w i q).1 in
      let kept = priority_kept c.seats.jobs (fiber_of c.seats w) (Some (record { job = j; step = k; worker = None })) (sym entry) in
      sorted_unless (λ g. priority_on (at (write c.seats.jobs (fiber_of c.seats w) (Some (record { job = j; step = k; worker = None }))) g)) (first_row key cs) (fiber_of c.seats w) (priority_of j) c.queues.ready
      (kept (fiber_of c.seats w) ∙ entry)
      (sorted_as (λ g. priority_on (at c.seats.jobs g)) (λ g. priority_on (at (write c.seats.jobs (fiber_of c.seats w) (Some (record { job = j; step = k; worker = None }))) g)) c.queues.ready kept h.ready)

  -- worker w's job ends, and w's fiber is not ready
  sorted_end : (w : ℕ) (key : Counter) → tally (λ g. fiber_of c.seats w == g) (all (core_end c w key).queues.ready) ≡ 0 → IsSorted (core_end c w key)
  sorted_end w key z = record {
    fresh = h.fresh;
    ready = sorted_leave c.seats.jobs (fiber_of c.seats w) None (wake c.seats.jobs c.queues.ready (woken key c.counters)) z (sorted_wake c.seats.jobs c.queues.ready (woken key c.counters) h.ready);
  }

  -- the fiber of a worker whose job has ended
  left_at_end : (w : ℕ) (j : JobName) → May s st (Finish w j) → waits_of s (at (core_after s c (Finish w j)).seats.jobs (fiber_of c.seats w)) ≡ None → tally (λ g. fiber_of c.seats w == g) (all (core_after s c (Finish w j)).queues.ready) ≡ 0
  left_at_end w j m e = nowhere s (core_after s c (Finish w j)) (after s st (Finish w j)) (step_fits s c st p inv fit (Finish w j) m) (fiber_of c.seats w) e

  sorted_step : (e : Event) → May s st e → IsSorted (core_after s c e)
  sorted_step (Start w j) m = record {
    fresh = sorted_take priority_of (same j) c.queues.fresh h.fresh;
    ready = sorted_leave c.seats.jobs (lowest c.seats (size_of j)) (Some (record { job = j; step = 0; worker = Some w })) c.queues.ready
        (nowhere s (core_after s c (Start w j)) (after s st (Start w j)) (step_fits s c st p inv fit (Start w j) m) (lowest c.seats (size_of j)) (waits_written s c.seats.jobs (lowest c.seats (size_of j)) (Some (record { job = j; step = 0; worker = Some w })) refl))
        h.ready;
  }
  sorted_step (Resume w j) m = record {
    fresh = h.fresh;
    ready = sorted_take (λ g. priority_on (at (write c.seats.jobs (first_place (holds j) c.seats.jobs) (by_worker w (at c.seats.jobs (first_place (holds j) c.seats.jobs)))) g)) (λ g. first_place (holds j) c.seats.jobs == g) c.queues.ready
        (sorted_as (λ g. priority_on (at c.seats.jobs g)) (λ g. priority_on (at (write c.seats.jobs (first_place (holds j) c.seats.jobs) (by_worker w (at c.seats.jobs (first_place (holds j) c.seats.jobs)))) g)) c.queues.ready
        (priority_kept c.seats.jobs (first_place (holds j) c.seats.jobs) (by_worker w (at c.seats.jobs (first_place (holds j) c.seats.jobs))) (by_worker_kept w (at c.seats.jobs (first_place (holds j) c.seats.jobs))))
        h.ready);
  }
  sorted_step (Spread w (Logic f)) m = record {
    fresh = sorted_put_all c.queues.fresh (first s.agents (λ a. Think f a)) h.fresh;
    ready = sorted_wait w 0 (Logic f) 1 (Thinks f) (raise (Thinks f) s.agents (raise (Shown f) 1 c.counters)) m.0;
  }
  sorted_step (Hold w (Logic f)) m = record { fresh = h.fresh; ready = sorted_wait w 0 (Logic f) 0 (Shown (f - s.slots)) c.counters m.0 }
  sorted_step (Ask w (Think f a)) m =
      let i = step_on (at c.seats.jobs (fiber_of c.seats w)) in
      record {
        fresh = sorted_put_all c.queues.fresh (Path f a i ∷ []) h.fresh;
        ready = sorted_wait w m.0 (Think f a) (suc i) (Way f a i) (raise (Way f a i) 1 c.counters) m.1;
      }
  sorted_step (Finish w (Logic f)) m = record {
    fresh = sorted_put_all (put_all c.queues.fresh (first s.bands (λ b. Draw f b))) (next_logic s f) (sorted_put_all c.queues.fresh (first s.bands (λ b. Draw f b)) h.fresh);
    ready = sorted_leave c.seats.jobs (fiber_of c.seats w) None c.queues.ready (left_at_end w (Logic f) m (waits_written s c.seats.jobs (fiber_of c.seats w) None refl)) h.ready;
  }
  sorted_step (Finish w (Think f a)) m = sorted_end w (Thinks f) (left_at_end w (Think f a) m (waits_written s c.seats.jobs (fiber_of c.seats w) None refl))
  sorted_step (Finish w (Path f a i)) m = sorted_end w (Way f a i) (left_at_end w (Path f a i) m (waits_written s c.seats.jobs (fiber_of c.seats w) None refl))
  sorted_step (Finish w (Draw f b)) m = sorted_end w (Draws f) (left_at_end w (Draw f b) m (waits_written s c.seats.jobs (fiber_of c.seats w) None refl))
  sorted_step (Emit f) m = record { fresh = h.fresh; ready = sorted_wake c.seats.jobs c.queues.ready (woken (Shown f) c.counters) h.ready }
  sorted_step Stop m = record { fresh = h.fresh; ready = h.ready }
  sorted_step _ m = absurd m

-- ---- by induction on the log

sorted_from : (s : Setup) (c : Core) (st : State) → 0 < s.slots → Shape s st → Fits s c st → IsSorted c → (es : List Event) → IsLegalFrom s st es → IsSorted (core_from s c es)
sorted_from s c st p inv fit h [] l = h
sorted_from s c st p inv fit h (e ∷ es) l = sorted_from s (core_after s c e) (after s st e) p (keeps s st e inv l.0.1) (step_fits s c st p inv fit e l.0.1) (sorted_step s c st p inv fit h e l.0.1) es l.1

pub sorted : (s : Setup) (log : List Event) → 0 < s.slots → IsLegalList s log → IsSorted (core_of s log)
sorted s log p l = sorted_from s (core_opening s) (opening s) p (opens s) (opening_fits s) (record { fresh = sorted_put_all none (next_logic s 0) (tt, tt, tt); ready = (tt, tt, tt) }) log l
