-- What a board keeps, as plain data, and what each event does to it: by the calls that the code makes.
use Rattle.std.specs.Prelude.{ℕ, zero, suc, ◌+◌, ◌-◌, ◌%◌, Bool, true, false, not, nat_lt, ◌==◌, ◌&&◌, List, [], ◌∷◌, ◌++◌, Option, Some, None, if◌then◌else◌, replicate, take, drop}
use Rattle.job_core.specs.declared.names.JobName.{JobName}
use Rattle.job_core.specs.declared.names.JobName.TheVariants.{Logic, Think, Path, Draw}
use Rattle.job_core.specs.declared.names.Size.{Size}
use Rattle.job_core.specs.declared.names.Size.TheVariants.{Small, Large}
use Rattle.job_core.specs.declared.names.Event.{Event}
use Rattle.job_core.specs.declared.names.Event.TheVariants.{Start, Resume, Ask, Spread, Hold, Finish, Emit, Stop}
use Rattle.job_core.specs.Core.{Setup, same, size_of, Counter, Thinks, Way, Draws, Shown}
use Rattle.board_model.specs.Lists.{tally, at, write, drop_first, change_first, first_place, Priority, High, Normal, Low, Three, none, add, take_from}

-- ---- queues

-- the jobs that are queued, and the fibers that are ready
pub record Queues : Type 0 where
  pub fresh : Three JobName
  pub ready : Three ℕ

abbrev pub priority_of : JobName → Priority
priority_of (Logic f) = High
priority_of (Think f a) = Normal
priority_of (Path f a i) = High
priority_of (Draw f b) = Low

abbrev pub put_all : Three JobName → List JobName → Three JobName
put_all t [] = t
put_all t (j ∷ js) = put_all (add (priority_of j) j t) js

-- the jobs of the first n numbers, in order
abbrev pub first : ℕ → (ℕ → JobName) → List JobName
first zero name = []
first (suc n) name = first n name ++ name n ∷ []

-- what the end of Logic f queues after its draws
abbrev pub next_logic : Setup → ℕ → List JobName
next_logic s f = if nat_lt f s.frames then (Logic (suc f) ∷ []) else []

-- ---- counters

abbrev pub same_counter : Counter → Counter → Bool
same_counter (Thinks f) (Thinks g) = f == g
same_counter (Way f a i) (Way g b j) = ((f == g) && (a == b)) && (i == j)
same_counter (Draws f) (Draws g) = f == g
same_counter (Shown f) (Shown g) = f == g
same_counter _ _ = false

pub record Row : Type 0 where
  pub key : Counter
  pub left : ℕ
  pub waiters : List ℕ

abbrev pub has_key : Counter → Row → Bool
has_key k c = same_counter k c.key

abbrev pub first_row : Counter → List Row → Option Row
first_row k [] = None
first_row k (c ∷ cs) = if same_counter k c.key then Some c else first_row k cs

-- a counter that is started at 0 is ended at once
abbrev pub raise : Counter → ℕ → List Row → List Row
raise k zero cs = cs
raise k (suc n) cs = cs ++ (record { key = k; left = suc n; waiters = [] }) ∷ []

abbrev pub lowered : Row → Row
lowered c = record { key = c.key; left = c.left - 1; waiters = c.waiters }

abbrev pub with_waiter : ℕ → Row → Row
with_waiter f c = record { key = c.key; left = c.left; waiters = c.waiters ++ f ∷ [] }

abbrev pub is_last : Option Row → Bool
is_last None = false
is_last (Some c) = c.left == 1

abbrev pub waiters_in : Option Row → List ℕ
waiters_in None = []
waiters_in (Some c) = c.waiters

-- a counter that reaches 0 gives out its waiters and is ended
abbrev pub lower : Counter → List Row → List Row
lower k cs = if is_last (first_row k cs) then drop_first (has_key k) cs else change_first lowered (has_key k) cs

abbrev pub woken : Counter → List Row → List ℕ
woken k cs = if is_last (first_row k cs) then waiters_in (first_row k cs) else []

-- a fiber waits for a counter; where none of that key stands (it is at 0) nothing changes here
abbrev pub wait : Counter → ℕ → List Row → List Row
wait k f cs = change_first (with_waiter f) (has_key k) cs

-- and the fiber is ready at once
abbrev pub unless_kept : Option Row → ℕ → Priority → Three ℕ → Three ℕ
unless_kept None f p t = add p f t
unless_kept (Some c) f p t = t

abbrev pub wait_ready : Counter → ℕ → Priority → List Row → Three ℕ → Three ℕ
wait_ready k f p cs t = unless_kept (first_row k cs) f p t

-- ---- fibers and workers

-- the job that a fiber holds, how far it has come, and the worker that runs it
pub record Held : Type 0 where
  pub job : JobName
  pub step : ℕ
  pub worker : Option ℕ

-- fibers, of which the first so many are small
pub record Seats : Type 0 where
  pub small : ℕ
  pub taken : List Bool
  pub jobs : List (Option Held)
  pub workers : List (Option ℕ)

-- the fibers of a size, where the first n are small
abbrev pub part : Size → (n : ℕ) → List Bool → List Bool
part Small n taken = take n taken
part Large n taken = drop n taken

-- the lowest free one of them
abbrev pub lowest_in : Size → (n : ℕ) → List Bool → ℕ
lowest_in Small n taken = first_place not (take n taken)
lowest_in Large n taken = n + first_place not (drop n taken)

abbrev pub taken_of : Seats → Size → List Bool
taken_of t z = part z t.small t.taken

abbrev pub lowest : Seats → Size → ℕ
lowest t z = lowest_in z t.small t.taken

-- whether a fiber of a job's size is free
abbrev pub has_fiber : Seats → JobName → Bool
has_fiber t j = nat_lt 0 (tally not (taken_of t (size_of j)))

abbrev pub runner : Option Held → Option ℕ
runner None = None
runner (Some h) = h.worker

abbrev pub is_taken : Option Held → Bool
is_taken None = false
is_taken (Some h) = true

-- the fiber that a worker runs, which is f if it runs one
abbrev pub runs_on : ℕ → Option ℕ → Option ℕ
runs_on f None = None
runs_on f (Some w) = Some f

-- worker w's fiber f is left with this job, or with none
abbrev pub seat : Seats → ℕ → ℕ → Option Held → Seats
seat t w f o = record { small = t.small; taken = write t.taken f (is_taken o); jobs = write t.jobs f o; workers = write t.workers w (runs_on f (runner o)) }

abbrev pub or_zero : Option ℕ → ℕ
or_zero None = 0
or_zero (Some n) = n

abbrev pub fiber_of : Seats → ℕ → ℕ
fiber_of t w = or_zero (at t.workers w)

abbrev pub holds : JobName → Option Held → Bool
holds j None = false
holds j (Some h) = same j h.job

abbrev pub step_on : Option Held → ℕ
step_on None = 0
step_on (Some h) = h.step

abbrev pub priority_on : Option Held → Priority
priority_on None = High
priority_on (Some h) = priority_of h.job

abbrev pub by_worker : ℕ → Option Held → Option Held
by_worker w None = None
by_worker w (Some h) = Some (record { job = h.job; step = h.step; worker = Some w })

-- fibers become ready, each at the priority of its job
abbrev pub wake : List (Option Held) → Three ℕ → List ℕ → Three ℕ
wake jobs t [] = t
wake jobs t (f ∷ fs) = wake jobs (add (priority_on (at jobs f)) f t) fs

-- ---- the board

pub record Core : Type 0 where
  pub queues : Queues
  pub seats : Seats
  pub counters : List Row
  pub slots : List (Option ℕ)  -- the frame in each slot
  pub emitted : ℕ
  pub stopped : Bool

-- worker w's job, now at this step, waits for k
abbrev pub core_wait : Core → ℕ → JobName → ℕ → Counter → Three JobName → List Row → List (Option ℕ) → Core
core_wait c w j step k fresh cs slots =
    record c {
      queues = record { fresh = fresh; ready = wait_ready k (fiber_of c.seats w) (priority_of j) cs c.queues.ready };
      seats = seat c.seats w (fiber_of c.seats w) (Some (record { job = j; step = step; worker = None }));
      counters = wait k (fiber_of c.seats w) cs;
      slots = slots;
    }

-- worker w's job ends and lowers k
abbrev pub core_end : Core → ℕ → Counter → Core
core_end c w k =
    record c {
      queues = record { fresh = c.queues.fresh; ready = wake c.seats.jobs c.queues.ready (woken k c.counters) };
      seats = seat c.seats w (fiber_of c.seats w) None;
      counters = lower k c.counters;
    }

abbrev pub core_after : Setup → Core → Event → Core
core_after s c (Start w j) =
    record c {
      queues = record { fresh = take_from (same j) c.queues.fresh; ready = c.queues.ready };
      seats = seat c.seats w (lowest c.seats (size_of j)) (Some (record { job = j; step = 0; worker = Some w }));
    }
core_after s c (Resume w j) =
    record c {
      queues = record { fresh = c.queues.fresh; ready = take_from (λ g. first_place (holds j) c.seats.jobs == g) c.queues.ready };
      seats = seat c.seats w (first_place (holds j) c.seats.jobs) (by_worker w (at c.seats.jobs (first_place (holds j) c.seats.jobs)));
    }
core_after s c (Spread w (Logic f)) =
    core_wait c w (Logic f) 1 (Thinks f) (put_all c.queues.fresh (first s.agents (λ a. Think f a)))
    (raise (Thinks f) s.agents (raise (Shown f) 1 c.counters)) (write c.slots (f % s.slots) (Some f))
core_after s c (Hold w (Logic f)) = core_wait c w (Logic f) 0 (Shown (f - s.slots)) c.queues.fresh c.counters c.slots
core_after s c (Ask w (Think f a)) =
    core_wait c w (Think f a) (suc (step_on (at c.seats.jobs (fiber_of c.seats w)))) (Way f a (step_on (at c.seats.jobs (fiber_of c.seats w))))
    (put_all c.queues.fresh (Path f a (step_on (at c.seats.jobs (fiber_of c.seats w))) ∷ []))
    (raise (Way f a (step_on (at c.seats.jobs (fiber_of c.seats w)))) 1 c.counters) c.slots
core_after s c (Finish w (Logic f)) =
    record c {
      queues = record { fresh = put_all (put_all c.queues.fresh (first s.bands (λ b. Draw f b))) (next_logic s f); ready = c.queues.ready };
      seats = seat c.seats w (fiber_of c.seats w) None;
      counters = raise (Draws f) s.bands c.counters;
    }
core_after s c (Finish w (Think f a)) = core_end c w (Thinks f)
core_after s c (Finish w (Path f a i)) = core_end c w (Way f a i)
core_after s c (Finish w (Draw f b)) = core_end c w (Draws f)
core_after s c (Emit f) =
    record c {
      queues = record { fresh = c.queues.fresh; ready = wake c.seats.jobs c.queues.ready (woken (Shown f) c.counters) };
      counters = lower (Shown f) c.counters;
      slots = write c.slots (f % s.slots) None;
      emitted = suc c.emitted;
    }
core_after s c Stop = record c { stopped = true }
core_after s c _ = c

abbrev pub core_opening : Setup → Core
core_opening s =
    record {
      queues = record { fresh = put_all none (next_logic s 0); ready = none };
      seats = record { small = s.small; taken = replicate (s.small + s.large) false; jobs = replicate (s.small + s.large) None; workers = replicate s.workers None };
      counters = [];
      slots = replicate s.slots None;
      emitted = 0;
      stopped = false;
    }

abbrev pub core_from : Setup → Core → List Event → Core
core_from s c [] = c
core_from s c (e ∷ es) = core_from s (core_after s c e) es

abbrev pub core_of : Setup → List Event → Core
core_of s log = core_from s (core_opening s) log
