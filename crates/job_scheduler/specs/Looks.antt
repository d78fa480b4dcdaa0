-- What may happen next, and why a call is refused: of a state that a legal list of events has reached.
use Rattle.std.specs.Prelude.{◌≡◌, ◌==◌, ◌≤◌, ◌<◌, ℕ, true, false, Option, Some, None, Result, Ok, Err}
use Rattle.job_core.specs.declared.names.JobName.{JobName}
use Rattle.job_core.specs.declared.names.Event.TheVariants.{Start, Resume, Emit}
use Rattle.job_core.specs.Core.{Setup, State, Runs, Waits, IsIdle, IsLegal, IsLegalList, same}
use Rattle.board_model.specs.Lists.{first_place}
use Rattle.board_model.specs.Board.{Core, Held, holds}
use Rattle.board_model.specs.Pick.{Pick, Ready, New}
use Rattle.job_queues.specs.Picks.{IsFirstAt}
use Rattle.job_scheduler.specs.declared.board_fault.BoardFault.{BoardFault}
use Rattle.job_scheduler.specs.declared.board_fault.BoardFault.TheVariants.{Stopped, NoWorker, Busy, NotRunning, Illegal}
use Rattle.job_scheduler.specs.declared.next.Next.{Next}
use Rattle.job_scheduler.specs.declared.next.Next.TheVariants as next
use Rattle.job_scheduler.specs.Logged.{Logged, setup_of, reached}

-- a fact of the setup and the state, whatever number of questions is asked, so long as the events are legal
abbrev pub Always : Logged → (Setup → State → Type 0) → Type 0
Always v fact = (questions : ℕ → ℕ → ℕ) → IsLegalList (setup_of v questions) v.events → fact (setup_of v questions) (reached v questions)

abbrev pub IsOn : Setup → State → ℕ → Type 0
IsOn s st w = (st.stopped ≡ false) × (w < s.workers)

-- a worker is idle, or the first reason why it can't be given a job
abbrev pub IsIdleOr : Setup → State → ℕ → BoardFault → Type 0
IsIdleOr s st w Stopped = st.stopped ≡ true
IsIdleOr s st w NoWorker = (st.stopped ≡ false) × (s.workers ≤ w)
IsIdleOr s st w Busy = IsOn s st w × (IsIdle st w → ⊥)
IsIdleOr s st w _ = ⊥

-- the first reason why a worker has no job to go on with
abbrev pub IsNotRunning : Setup → State → ℕ → BoardFault → Type 0
IsNotRunning s st w Stopped = st.stopped ≡ true
IsNotRunning s st w NoWorker = (st.stopped ≡ false) × (s.workers ≤ w)
IsNotRunning s st w NotRunning = IsOn s st w × IsIdle st w
IsNotRunning s st w _ = ⊥

-- the job that a worker runs, how far it has come, and that this worker runs it
abbrev pub IsRunning : ℕ → Result Held BoardFault → Setup → State → Type 0
IsRunning w (Ok held) s st = IsOn s st w × (st.phase held.job ≡ Runs w held.step) × (held.worker ≡ Some w)
IsRunning w (Err fault) s st = IsNotRunning s st w fault

-- what an idle worker does next: nothing only where it can neither start nor resume a job; nobody runs a job that it resumes
abbrev pub IsGivenTo : ℕ → Result (Option Next) BoardFault → Setup → State → Type 0
IsGivenTo w (Ok None) s st = IsOn s st w × IsIdle st w × ((j : JobName) → (IsLegal s st (Start w j) → ⊥) × (IsLegal s st (Resume w j) → ⊥))
IsGivenTo w (Ok (Some (next.Start job place))) s st = IsLegal s st (Start w job)
IsGivenTo w (Ok (Some (next.Resume fiber held place))) s st = IsLegal s st (Resume w held.job) × (st.phase held.job ≡ Waits held.step) × (held.worker ≡ None)
IsGivenTo w (Err fault) s st = IsIdleOr s st w fault

-- as the queues give it
abbrev pub as_pick : Next → Pick
as_pick (next.Start job place) = New job
as_pick (next.Resume fiber held place) = Ready fiber

-- the frame that is shown next, or why there is none
abbrev pub IsToShow : Result ℕ BoardFault → Setup → State → Type 0
IsToShow (Ok frame) s st = IsLegal s st (Emit frame)
IsToShow (Err Stopped) s st = st.stopped ≡ true
IsToShow (Err Illegal) s st = (st.stopped ≡ false) × ((f : ℕ) → IsLegal s st (Emit f) → ⊥)
IsToShow (Err _) s st = ⊥

-- what goes first stands there, and the fiber that goes on is the one that holds the job
abbrev pub IsPlace : Core → Option Next → Type 0
IsPlace c (Some (next.Start job place)) = IsFirstAt (same job) c.queues.fresh place
IsPlace c (Some (next.Resume fiber held place)) = (first_place (holds held.job) c.seats.jobs ≡ fiber) × IsFirstAt (λ other. fiber == other) c.queues.ready place
IsPlace c None = Unit {0}
