-- What a call does to the board that a handle holds.
use Rattle.std.specs.Prelude.{◌≡◌, ◌==◌, ◌≤◌, ◌-◌, ◌++◌, ◌↔◌, ℕ, min, List, [], length, slice_get, map, take, drop, Option, Some, None, Ok, Bool, true, false, if◌then◌else◌, IsTrue}
use Rattle.job_core.specs.declared.names.JobName.{JobName}
use Rattle.job_core.specs.declared.names.JobName.TheVariants.{Logic, Think, Path, Draw}
use Rattle.job_core.specs.declared.names.Event.{Event}
use Rattle.job_core.specs.declared.names.Event.TheVariants.{Start, Resume, Ask, Spread, Hold, Finish, Emit, Stop}
use Rattle.job_core.specs.Core.{Waits}
use Rattle.board_model.specs.Board.{Held}
use Rattle.frame_jobs.specs.Boards.{FrameBoard, Happens, IsTaken, IsFirst, IsAsked, SpreadsOrHolds, SomebodyStarts, NobodyStarts}
use Rattle.job_scheduler.specs.Numbers.{settings_of}
use Rattle.job_scheduler.specs.Looks.{Always, IsGivenTo}
use Rattle.frame_jobs_c.specs.declared.held.Job.{Job}
use Rattle.frame_jobs_c.specs.declared.held.EventState.{EventState}
use Rattle.frame_jobs_c.specs.declared.held.Numbers.{Numbers}

-- a job in numbers; a step is a Logic's or a Think's
abbrev pub job_state : JobName → (step : ℕ) → Job
job_state (Logic f) step = record { kind = 0; frame = f; index = 0; question = step }
job_state (Think f a) step = record { kind = 1; frame = f; index = a; question = step }
job_state (Path f a i) step = record { kind = 2; frame = f; index = a; question = i }
job_state (Draw f b) step = record { kind = 3; frame = f; index = b; question = step }

-- the job that numbers name: any kind above 2 is a Draw's
abbrev pub job_named : Job → JobName
job_named j = if j.kind == 0 then Logic j.frame else (if j.kind == 1 then Think j.frame j.index else (if j.kind == 2 then Path j.frame j.index j.question else Draw j.frame j.index))

-- both handles hold a board, of which this holds
abbrev pub IsDoneIn : (FrameBoard → FrameBoard → Type 0) → Option FrameBoard → Option FrameBoard → Type 0
IsDoneIn does (Some old) (Some new) = does old new
IsDoneIn does _ _ = ⊥

abbrev pub Takes : ℕ → Job → FrameBoard → FrameBoard → Type 0
Takes w job old new = (held : Held) × IsTaken old new w (Some held) × (job ≡ job_state held.job held.step)

-- and that job goes first
abbrev pub TakesFirst : ℕ → Job → FrameBoard → FrameBoard → Type 0
TakesFirst w job old new = (held : Held) × IsTaken old new w (Some held) × IsFirst old (Some held) × (job ≡ job_state held.job held.step)

-- a job goes on that stood at this step
abbrev pub GoesOn : ℕ → JobName → ℕ → FrameBoard → FrameBoard → Type 0
GoesOn w job step old new = Happens old new (Resume w job) × Always old.jobs (λ s st. st.phase job ≡ Waits step)

abbrev pub Asks : ℕ → Job → FrameBoard → FrameBoard → Type 0
Asks w job old new = (path : JobName) × IsAsked old new w path × (job ≡ job_state path 0)

abbrev pub Spreads : ℕ → Bool → FrameBoard → FrameBoard → Type 0
Spreads w spread old new = (f : ℕ) × SpreadsOrHolds old new w (Logic f) spread

abbrev pub Finishes : ℕ → FrameBoard → FrameBoard → Type 0
Finishes w old new = (job : JobName) × Happens old new (Finish w job)

-- a handle holds a board, of which this holds
abbrev pub IsReadIn : (FrameBoard → Type 0) → Option FrameBoard → Type 0
IsReadIn says (Some b) = says b
IsReadIn says None = ⊥

abbrev pub Opens : Numbers → FrameBoard → Type 0
Opens n b = b ≡ record { jobs = record { numbers = settings_of n.frames n.workers n.small n.large n.slots; agents = n.agents; bands = n.bands; events = [] }; most_questions = n.most_questions }

abbrev pub IsDoneNow : Bool → FrameBoard → Type 0
IsDoneNow done b = Always b.jobs (λ s st. IsTrue done ↔ ((st.stopped ≡ false) × (st.emitted ≡ s.frames)))

abbrev pub IsGivenNow : Bool → FrameBoard → Type 0
IsGivenNow true b = SomebodyStarts b
IsGivenNow false b = NobodyStarts b

-- the worker can neither start nor resume a job
abbrev pub HasNothing : ℕ → FrameBoard → Type 0
HasNothing w b = Always b.jobs (IsGivenTo w (Ok None))

abbrev pub HasCount : ℕ → FrameBoard → Type 0
HasCount count b = count ≡ length b.jobs.events

-- an event in numbers
abbrev pub event_state : Event → EventState
event_state (Start w j) = record { kind = 0; worker = w; job = job_state j 0 }
event_state (Resume w j) = record { kind = 1; worker = w; job = job_state j 0 }
event_state (Ask w j) = record { kind = 2; worker = w; job = job_state j 0 }
event_state (Spread w j) = record { kind = 3; worker = w; job = job_state j 0 }
event_state (Hold w j) = record { kind = 4; worker = w; job = job_state j 0 }
event_state (Finish w j) = record { kind = 5; worker = w; job = job_state j 0 }
event_state (Emit f) = record { kind = 6; worker = 0; job = job_state (Logic f) 0 }
event_state Stop = record { kind = 7; worker = 0; job = job_state (Logic 0) 0 }

-- the event at a place of the log
abbrev pub HasAt : ℕ → EventState → FrameBoard → Type 0
HasAt at state b = (event : Event) × (slice_get b.jobs.events at ≡ Some event) × (state ≡ event_state event)

abbrev pub HasNoneAt : ℕ → FrameBoard → Type 0
HasNoneAt at b = length b.jobs.events ≤ at

-- the events from a place on stand at the start of a buffer, as many as it has room for, and the buffer is kept behind them
abbrev pub HasFrom : (from count : ℕ) → (old new : List EventState) → FrameBoard → Type 0
HasFrom from count old new b = (count ≡ min (length old) (length b.jobs.events - from)) × (new ≡ map event_state (take count (drop from b.jobs.events)) ++ drop count old)
