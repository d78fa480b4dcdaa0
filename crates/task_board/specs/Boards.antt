-- What a board is seen as, and what its calls do and refuse.
use Rattle.std.specs.Prelude.{◌≡◌, ◌==◌, ◌≤◌, ◌<◌, ℕ, true, false, List, [], ◌∷◌, ◌++◌, ◌⊎◌, Option, Some, None, length}
use Rattle.game_rules.specs.Game.{Game}
use Rattle.job_core.specs.declared.names.JobName.{JobName}
use Rattle.job_core.specs.declared.names.JobName.TheVariants.{Logic}
use Rattle.job_core.specs.declared.names.Event.{Event}
use Rattle.job_core.specs.declared.names.Event.TheVariants.{Start, Resume, Emit, Stop as StopEvent}
use Rattle.job_core.specs.Core.{Setup, State, Runs, Waits, IsIdle, IsLegal, IsLegalList, same, state}
use Rattle.job_core.specs.Priorities.{GoesFirst}
use Rattle.game_jobs.specs.Instance.{asked_in}
use Rattle.board_model.specs.Lists.{first_place}
use Rattle.board_model.specs.Board.{Core, Held, core_of, holds}
use Rattle.board_model.specs.Pick.{Pick, Ready, New, given}
use Rattle.frame_state.specs.Names.{FrameOf}
use Rattle.frame_state.specs.Contents.{bands_in}
use Rattle.frame_params.specs.Tasks.{job_of, IsTaskAt}
use Rattle.frame_params.specs.declared.task.Task.{Task}
use Rattle.board_model.specs.Stored.{stored_after}
use Rattle.job_queues.specs.declared.queue_index.QueueIndex.{QueueIndex}
use Rattle.job_queues.specs.Picks.{IsFirstAt}
use Rattle.job_scheduler.specs.Numbers.{Numbers, IsWithinLimits}
use Rattle.job_scheduler.specs.Logged.{Logged, setup_of}
use Rattle.job_scheduler.specs.declared.board_fault.BoardFault.{BoardFault}
use Rattle.task_board.specs.FrameStore.{FrameStoreOf}
use Rattle.job_scheduler.specs.declared.board_fault.BoardFault.TheVariants.{Stopped, NoWorker, Busy, NotRunning, WrongResult, Illegal, OutOfMemory}

-- the game, the numbers of the run, and the events so far
pub record Played : Type 0 where
  pub game : Game
  pub numbers : Numbers
  pub events : List Event

-- the board's jobs alone
abbrev pub jobs_of : Played → Logged
jobs_of b = record { numbers = b.numbers; agents = length b.game.trees; bands = bands_in b.game; events = b.events }

-- the setup of the game with these numbers, and the state that the events have reached
abbrev pub setup_in : Played → Setup
setup_in b = setup_of (jobs_of b) (asked_in b.game)

abbrev pub state_in : Played → State
state_in b = state (setup_in b) b.events

-- what the events make of what the board keeps
abbrev pub kept_in : Played → Core
kept_in b = core_of (setup_in b) b.events

abbrev pub with_event : Played → Event → Played
with_event b e = record b { events = b.events ++ e ∷ [] }

-- an event happened: it was legal, and is the last of the events now
pub record Happens (old new : Played) (e : Event) : Type 0 where
  pub legal : IsLegal (setup_in old) (state_in old) e
  pub logged : new ≡ with_event old e

-- ---- taking

-- what an idle worker is given
abbrev pub pick_in : Played → Option Pick
pick_in b = given (core_of (setup_in b) b.events)

-- nothing is stopped, and a worker that is idle is given a job
abbrev pub GivesJob : Played → Type 0
GivesJob b = ((state_in b).stopped ≡ false) × (pick_in b ≡ None → ⊥)

pub record Starts (old new : Played) (w : ℕ) (task : Task) : Type 0 where
  pub happens : Happens old new (Start w (job_of task))
  pub is_task : IsTaskAt old.game (job_of task) 0 task
  pub first : GoesFirst (setup_in old) (state_in old) (job_of task)
  pub picked : pick_in old ≡ Some (New (job_of task))

pub record Resumes (old new : Played) (w : ℕ) (task : Task) : Type 0 where
  pub step : ℕ
  pub fiber : ℕ
  pub happens : Happens old new (Resume w (job_of task))
  pub stands : (state_in old).phase (job_of task) ≡ Waits step
  pub is_task : IsTaskAt old.game (job_of task) step task
  pub first : GoesFirst (setup_in old) (state_in old) (job_of task)
  pub picked : pick_in old ≡ Some (Ready fiber)
  pub holder : first_place (holds (job_of task)) (core_of (setup_in old) old.events).seats.jobs ≡ fiber

abbrev pub IsOn : Played → ℕ → Type 0
IsOn b w = ((state_in b).stopped ≡ false) × (w < b.numbers.workers)

-- a task is taken, or nothing may start or go on
abbrev pub IsTaken : (old new : Played) → ℕ → Option Task → Type 0
IsTaken old new w None =
    (new ≡ old) × (IsOn old w) × IsIdle (state_in old) w
    × ((j : JobName) → (IsLegal (setup_in old) (state_in old) (Start w j) → ⊥) × (IsLegal (setup_in old) (state_in old) (Resume w j) → ⊥))
IsTaken old new w (Some task) = Starts old new w task ⊎ Resumes old new w task

-- a job that may start, and one that may go on: what a board found before it takes it
pub record IsStart (b : Played) (w : ℕ) (j : JobName) (place : QueueIndex) : Type 0 where
  pub legal : IsLegal (setup_in b) (state_in b) (Start w j)
  pub first : GoesFirst (setup_in b) (state_in b) j
  pub picked : pick_in b ≡ Some (New j)
  pub queued : IsFirstAt (same j) (kept_in b).queues.fresh place

pub record IsResume (b : Played) (w fiber : ℕ) (held : Held) (place : QueueIndex) : Type 0 where
  pub legal : IsLegal (setup_in b) (state_in b) (Resume w held.job)
  pub stands : (state_in b).phase held.job ≡ Waits held.step
  pub first : GoesFirst (setup_in b) (state_in b) held.job
  pub picked : pick_in b ≡ Some (Ready fiber)
  pub holder : first_place (holds held.job) (core_of (setup_in b) b.events).seats.jobs ≡ fiber
  pub ready : IsFirstAt (λ other. fiber == other) (kept_in b).queues.ready place

-- a worker runs the Logic of a frame, at its start
pub record IsBeginning (b : Played) (w frame : ℕ) : Type 0 where
  pub on : IsOn b w
  pub runs : (state_in b).phase (Logic frame) ≡ Runs w 0

-- an event of a worker that is legal only for a Logic at its start
abbrev pub NeedsBeginning : Played → ℕ → (JobName → Event) → Type 0
NeedsBeginning b w event = (j : JobName) → IsLegal (setup_in b) (state_in b) (event j) → (f : ℕ) × (j ≡ Logic f) × ((state_in b).phase (Logic f) ≡ Runs w 0)

-- the event of the Logic that a worker ran happened
abbrev pub IsDoneByLogic : (old new : Played) → (ℕ → Event) → Type 0
IsDoneByLogic old new event = (f : ℕ) × Happens old new (event f)

-- the next frame is shown
abbrev pub IsShown : (old new : Played) → FrameOf → Type 0
IsShown old new shown = (shown.game ≡ old.game) × Happens old new (Emit shown.frame)

-- a board is stopped, and no event is added to one that is
abbrev pub IsStopped : (old new : Played) → Type 0
IsStopped old new = (((state_in old).stopped ≡ true) × (new ≡ old)) ⊎ Happens old new StopEvent

-- ---- refusals: each exactly where it applies, the first of them; for memory is refused what was legal

abbrev pub IsTakeRefused : Played → ℕ → BoardFault → Type 0
IsTakeRefused b w Stopped = (state_in b).stopped ≡ true
IsTakeRefused b w NoWorker = ((state_in b).stopped ≡ false) × (b.numbers.workers ≤ w)
IsTakeRefused b w Busy = IsOn b w × (IsIdle (state_in b) w → ⊥)
IsTakeRefused b w OutOfMemory = (j : JobName) × (IsLegal (setup_in b) (state_in b) (Start w j) ⊎ IsLegal (setup_in b) (state_in b) (Resume w j))
IsTakeRefused b w _ = ⊥

-- of a call for the job that a worker runs: `other` says of the job and its step that the value handed in is of another,
-- and `event` is what the call would do
abbrev pub IsRefused : Played → ℕ → (other : JobName → ℕ → Type 0) → (event : JobName → Event) → BoardFault → Type 0
IsRefused b w other event Stopped = (state_in b).stopped ≡ true
IsRefused b w other event NoWorker = ((state_in b).stopped ≡ false) × (b.numbers.workers ≤ w)
IsRefused b w other event NotRunning = IsOn b w × IsIdle (state_in b) w
IsRefused b w other event WrongResult = IsOn b w × ((j : JobName) × (k : ℕ) × ((state_in b).phase j ≡ Runs w k) × other j k)
IsRefused b w other event Illegal = IsOn b w × ((j : JobName) × (k : ℕ) × ((state_in b).phase j ≡ Runs w k) × (other j k → ⊥) × (IsLegal (setup_in b) (state_in b) (event j) → ⊥))
IsRefused b w other event OutOfMemory = (j : JobName) × (k : ℕ) × ((state_in b).phase j ≡ Runs w k) × (other j k → ⊥) × IsLegal (setup_in b) (state_in b) (event j)
IsRefused b w other event Busy = ⊥

abbrev pub IsEmitRefused : Played → BoardFault → Type 0
IsEmitRefused b Stopped = (state_in b).stopped ≡ true
IsEmitRefused b Illegal = ((state_in b).stopped ≡ false) × ((f : ℕ) → IsLegal (setup_in b) (state_in b) (Emit f) → ⊥)
IsEmitRefused b OutOfMemory = (f : ℕ) × IsLegal (setup_in b) (state_in b) (Emit f)
IsEmitRefused b _ = ⊥

-- nothing is handed in that could be another's
abbrev pub NoOther : JobName → ℕ → Type 0
NoOther j k = ⊥

-- ---- what a board keeps of itself

pub record IsBoard (b : Played) (jobs : Logged) (frame_store : FrameStoreOf) : Type 0 where
  pub jobs_are : jobs ≡ jobs_of b
  pub frame_store_is : frame_store ≡ record { game = b.game; stored = stored_after (setup_in b) b.events }
  pub lawful : IsLegalList (setup_in b) b.events
  pub within : IsWithinLimits b.numbers.frames b.numbers.workers b.numbers.small b.numbers.large b.numbers.slots
