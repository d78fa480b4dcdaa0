-- A board of jobs whose questions are known only once they are asked: what it is seen as, and what its calls do.
use Rattle.std.specs.Prelude.{◌≡◌, ◌≤◌, ◌<◌, ◌⊎◌, ℕ, Bool, true, false, Option, Some, None, Ok, Err}
use Rattle.job_core.specs.declared.names.JobName.{JobName}
use Rattle.job_core.specs.declared.names.JobName.TheVariants.{Logic, Think, Path}
use Rattle.job_core.specs.declared.names.Event.{Event}
use Rattle.job_core.specs.declared.names.Event.TheVariants.{Start, Resume, Ask, Spread, Hold, Emit, Stop}
use Rattle.job_core.specs.Core.{Runs, Waits, IsIdle, IsLegal, IsLegalList}
use Rattle.job_core.specs.Priorities.{GoesFirst}
use Rattle.board_model.specs.Board.{Held}
use Rattle.job_scheduler.specs.Numbers.{IsWithinWideLimits}
use Rattle.job_scheduler.specs.Logged.{Logged, setup_of, reached, with_event}
use Rattle.job_scheduler.specs.declared.board_fault.BoardFault.{BoardFault}
use Rattle.job_scheduler.specs.declared.board_fault.BoardFault.TheVariants.{OutOfMemory, Illegal}
use Rattle.job_scheduler.specs.Looks.{Always, IsIdleOr, IsNotRunning, IsGivenTo, IsToShow}

-- the jobs, and how many questions a Think may ask
pub record FrameBoard : Type 0 where
  pub jobs : Logged
  pub most_questions : ℕ

abbrev pub with_one : FrameBoard → Event → FrameBoard
with_one b e = record { jobs = with_event b.jobs e; most_questions = b.most_questions }

-- there are numbers of questions, none above the most, for which the events are a legal list
pub record IsOpen (b : FrameBoard) : Type 0 where
  pub questions : ℕ → ℕ → ℕ
  pub few : (f a : ℕ) → questions f a ≤ b.most_questions
  pub lawful : IsLegalList (setup_of b.jobs questions) b.jobs.events
  pub within : IsWithinWideLimits b.jobs.numbers.frames b.jobs.numbers.workers b.jobs.numbers.small b.jobs.numbers.large b.jobs.numbers.slots

-- and this event is legal after them
pub record MayHappen (b : FrameBoard) (e : Event) : Type 0 where
  pub questions : ℕ → ℕ → ℕ
  pub few : (f a : ℕ) → questions f a ≤ b.most_questions
  pub lawful : IsLegalList (setup_of b.jobs questions) b.jobs.events
  pub legal : IsLegal (setup_of b.jobs questions) (reached b.jobs questions) e

-- an event that was legal is the last of the events now
pub record Happens (old new : FrameBoard) (e : Event) : Type 0 where
  pub legal : MayHappen old e
  pub logged : new ≡ with_one old e

-- a worker runs this job, which has come so far
abbrev pub RunsNow : FrameBoard → ℕ → Held → Type 0
RunsNow b w held = Always b.jobs (λ s st. st.phase held.job ≡ Runs w held.step)

-- a worker starts a job, or goes on with it where it stands
abbrev pub TakesUp : (old new : FrameBoard) → ℕ → JobName → (step : ℕ) → Type 0
TakesUp old new w j step = (Happens old new (Start w j) × (step ≡ 0)) ⊎ (Happens old new (Resume w j) × Always old.jobs (λ s st. st.phase j ≡ Waits step))

-- a job is taken, or nothing may start or go on
abbrev pub IsTaken : (old new : FrameBoard) → ℕ → Option Held → Type 0
IsTaken old new w None = (new ≡ old) × Always old.jobs (IsGivenTo w (Ok None))
IsTaken old new w (Some held) = TakesUp old new w held.job held.step × (held.worker ≡ Some w)

-- a worker's Think has asked the question that this Path answers
abbrev pub IsAsked : (old new : FrameBoard) → ℕ → JobName → Type 0
IsAsked old new w (Path f a i) = Happens old new (Ask w (Think f a)) × RunsNow old w (record { job = Think f a; step = i; worker = Some w })
IsAsked old new w _ = ⊥

-- the frame of a worker's Logic has begun, or waits for its slot
abbrev pub SpreadsOrHolds : (old new : FrameBoard) → ℕ → JobName → (spreads : Bool) → Type 0
SpreadsOrHolds old new w job spreads = ((spreads ≡ true) × Happens old new (Spread w job)) ⊎ ((spreads ≡ false) × Happens old new (Hold w job))

-- a Logic that is over has turned its frame
abbrev pub IsTurned : JobName → (step : ℕ) → Type 0
IsTurned (Logic f) step = step ≡ 1
IsTurned _ step = Unit {0}

-- the job that is taken goes first
abbrev pub IsFirst : FrameBoard → Option Held → Type 0
IsFirst b None = Unit {0}
IsFirst b (Some held) = Always b.jobs (λ s st. GoesFirst s st held.job)

-- ---- refusals: why, in the order in which a call looks; for memory is refused what may happen

-- of a call that would do this very event
abbrev pub IsBarred : FrameBoard → Event → BoardFault → Type 0
IsBarred b e Illegal = Always b.jobs (λ s st. IsLegal s st e → ⊥)
IsBarred b e OutOfMemory = MayHappen b e
IsBarred b e _ = ⊥

abbrev pub IsTakeRefused : FrameBoard → ℕ → BoardFault → Type 0
IsTakeRefused b w OutOfMemory = (j : JobName) × (MayHappen b (Start w j) ⊎ MayHappen b (Resume w j))
IsTakeRefused b w fault = Always b.jobs (λ s st. IsIdleOr s st w fault)

abbrev pub IsShowRefused : FrameBoard → BoardFault → Type 0
IsShowRefused b OutOfMemory = (f : ℕ) × MayHappen b (Emit f)
IsShowRefused b fault = Always b.jobs (IsToShow (Err fault))

-- of a call for the job that a worker runs: `may` says of a job what the call would do
abbrev pub IsRefused : FrameBoard → ℕ → (may : JobName → Type 0) → BoardFault → Type 0
IsRefused b w may Illegal = (held : Held) × RunsNow b w held × (may held.job → ⊥)
IsRefused b w may OutOfMemory = (held : Held) × RunsNow b w held × may held.job
IsRefused b w may fault = Always b.jobs (λ s st. IsNotRunning s st w fault)

-- the frame of a worker's Logic can begin, or wait for its slot
abbrev pub MaySpreadOrHold : FrameBoard → ℕ → JobName → Type 0
MaySpreadOrHold b w j = MayHappen b (Spread w j) ⊎ MayHappen b (Hold w j)

-- ---- what may be taken

-- each worker that is idle may start a job or go on with one
abbrev pub SomebodyStarts : FrameBoard → Type 0
SomebodyStarts b =
    Always b.jobs (λ s st. (st.stopped ≡ false) × ((w : ℕ) → w < s.workers → IsIdle st w → (j : JobName) × (IsLegal s st (Start w j) ⊎ IsLegal s st (Resume w j))))

abbrev pub NobodyStarts : FrameBoard → Type 0
NobodyStarts b = Always b.jobs (λ s st. (w : ℕ) (j : JobName) → (IsLegal s st (Start w j) → ⊥) × (IsLegal s st (Resume w j) → ⊥))

-- nothing happens any more, for a Stop that happened now or before
abbrev pub IsStoppedBy : (old new : FrameBoard) → Type 0
IsStoppedBy old new = ((new ≡ old) × Always old.jobs (λ s st. st.stopped ≡ true)) ⊎ Happens old new Stop
