-- When what a board keeps fits the state: a record for each component, by counts.
use Rattle.std.specs.Prelude.{◌≡◌, ◌<◌, ℕ, zero, suc, ◌+◌, ◌%◌, Bool, true, false, nat_lt, ◌==◌, ◌&&◌, List, [], ◌∷◌, Option, Some, None, length, map, if◌then◌else◌}
use Rattle.job_core.specs.declared.names.JobName.{JobName}
use Rattle.job_core.specs.declared.names.JobName.TheVariants.{Logic, Think, Path, Draw}
use Rattle.job_core.specs.declared.names.Size.{Size}
use Rattle.job_core.specs.declared.names.Size.TheVariants.{Small, Large}
use Rattle.job_core.specs.Core.{Setup, State, Phase, Absent, Queued, Runs, Waits, Finished, same, held, size_of, held_in, total, over_jobs, Counter, Thinks, Way, Draws, Shown, awaited}
use Rattle.board_model.specs.Lists.{bit, tally, at, Three, all}
use Rattle.board_model.specs.Board.{Core, Seats, Held, Row, same_counter, runner, is_taken, holds}

-- ---- queues

abbrev pub queued : Phase → ℕ
queued Queued = 1
queued _ = 0

-- each job stands as often among the new jobs as it is queued
abbrev pub QueuesFit : Three JobName → (JobName → Phase) → Type 0
QueuesFit fresh phase = (j : JobName) → tally (same j) (all fresh) ≡ queued (phase j)

-- ---- fibers and workers

-- the phase that an entry of the table says
abbrev pub standing : Option ℕ → ℕ → Phase
standing None step = Waits step
standing (Some w) step = Runs w step

abbrev pub StandsAs : (JobName → Phase) → Option Held → Type 0
StandsAs phase None = Unit {0}
StandsAs phase (Some h) = phase h.job ≡ standing h.worker h.step

abbrev pub same_size : Size → Size → Bool
same_size Small Small = true
same_size Large Large = true
same_size Small Large = false
same_size Large Small = false

-- an entry is of a job of this size
abbrev pub is_of : Size → Option Held → Bool
is_of z None = false
is_of z (Some h) = same_size z (size_of h.job)

-- the size of a fiber where the first n are small
abbrev pub size_at : (n fiber : ℕ) → Size
size_at zero f = Large
size_at (suc n) zero = Small
size_at (suc n) (suc f) = size_at n f

-- a job lies on a fiber of its size
abbrev pub IsPlaced : Size → Option Held → Type 0
IsPlaced z None = Unit {0}
IsPlaced z (Some h) = z ≡ size_of h.job

pub record SeatsFit (s : Setup) (t : Seats) (phase : JobName → Phase) : Type 0 where
  pub small : t.small ≡ s.small
  pub fibers : length t.jobs ≡ s.small + s.large
  pub workers : length t.workers ≡ s.workers
  pub taken : t.taken ≡ map is_taken t.jobs
  pub placed : (f : ℕ) → IsPlaced (size_at t.small f) (at t.jobs f)
  pub live : (z : Size) → tally (is_of z) t.jobs ≡ over_jobs s (λ j. held_in z (size_of j) (phase j))
  pub once : (j : JobName) → tally (holds j) t.jobs ≡ held (phase j)
  pub stands : (f : ℕ) → StandsAs phase (at t.jobs f)
  pub runs : (w f : ℕ) → at t.workers w ≡ Some f → runner (at t.jobs f) ≡ Some w
  pub busy : (f w : ℕ) → runner (at t.jobs f) ≡ Some w → at t.workers w ≡ Some f

-- ---- counters and ready fibers

-- a job that is queued, runs or waits
abbrev pub pending : Phase → ℕ
pending Absent = 0
pending Queued = 1
pending (Runs w k) = 1
pending (Waits k) = 1
pending Finished = 0

abbrev pub has_spread : Phase → Bool
has_spread (Runs w (suc k)) = true
has_spread (Waits (suc k)) = true
has_spread Finished = true
has_spread _ = false

-- the number at which a counter stands; one at 0 is not kept
abbrev pub number : Setup → State → Counter → ℕ
number s st (Thinks f) = total s.agents (λ a. pending (st.phase (Think f a)))
number s st (Way f a i) = pending (st.phase (Path f a i))
number s st (Draws f) = total s.bands (λ b. pending (st.phase (Draw f b)))
number s st (Shown f) = bit (has_spread (st.phase (Logic f)) && nat_lt st.emitted f)

-- the counter that a fiber waits for
abbrev pub waits_by : Setup → JobName → ℕ → Option ℕ → Option Counter
waits_by s j step None = Some (awaited s j step)
waits_by s j step (Some w) = None

abbrev pub waits_of : Setup → Option Held → Option Counter
waits_of s None = None
waits_of s (Some h) = waits_by s h.job h.step h.worker

abbrev pub is_for : Counter → Option Counter → Bool
is_for k None = false
is_for k (Some l) = same_counter k l

abbrev pub is_ready : (Counter → ℕ) → Option Counter → Bool
is_ready number None = false
is_ready number (Some k) = number k == 0

-- the rows of a key
abbrev pub rows : Counter → List Row → List Row
rows k [] = []
rows k (c ∷ cs) = if same_counter k c.key then (c ∷ rows k cs) else rows k cs

-- none where the number is 0, else one with this number and these waiters
abbrev pub RowFits : ℕ → (ℕ → Bool) → List Row → Type 0
RowFits n waits [] = n ≡ 0
RowFits n waits (c ∷ []) = (c.left ≡ n) × (0 < n) × ((f : ℕ) → tally (λ g. f == g) c.waiters ≡ bit (waits f))
RowFits n waits (c ∷ d ∷ cs) = ⊥

pub record WaitsFit (number : Counter → ℕ) (waits : ℕ → Option Counter) (cs : List Row) (woke : List ℕ) : Type 0 where
  pub row : (k : Counter) → RowFits (number k) (λ f. is_for k (waits f)) (rows k cs)
  pub ready : (f : ℕ) → tally (λ g. f == g) woke ≡ bit (is_ready number (waits f))

-- ---- slots

-- a slot holds each frame that has spread and isn't emitted, and no other
pub record SlotsFit (s : Setup) (slots : List (Option ℕ)) (number : Counter → ℕ) : Type 0 where
  pub size : length slots ≡ s.slots
  pub full : (f : ℕ) → number (Shown f) ≡ 1 → at slots (f % s.slots) ≡ Some f
  pub only : (i f : ℕ) → at slots i ≡ Some f → (number (Shown f) ≡ 1) × (i ≡ f % s.slots)

-- ---- all of it

pub record Fits (s : Setup) (c : Core) (st : State) : Type 0 where
  pub stopped : c.stopped ≡ st.stopped
  pub emitted : c.emitted ≡ st.emitted
  pub queues : QueuesFit c.queues.fresh st.phase
  pub seats : SeatsFit s c.seats st.phase
  pub waits : WaitsFit (number s st) (λ f. waits_of s (at c.seats.jobs f)) c.counters (all c.queues.ready)
  pub slots : SlotsFit s c.slots (number s st)
