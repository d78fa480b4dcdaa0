-- What is written of a level and a log as a page.
use Rattle.std.specs.Prelude.{ℕ, ◌≡◌, ◌≤◌, ◌<◌, ◌⊎◌, ◌++◌, List, Option, IsSomeAnd, length, take}
use Rattle.std.specs.Io.KnownBytes.{Appends, Keeps}
use Rattle.byte_streams.specs.Streams.{AppendsPart}
use Rattle.game_rules.specs.Game.{Game}
use Rattle.job_core.specs.declared.names.Event.{Event}
use Rattle.job_core.specs.Core.{IsLegalList}
use Rattle.job_scheduler.specs.Numbers.{Numbers}
use Rattle.log_text.specs.Readings.{IsLog}
use Rattle.task_board.specs.Setups.{setup_for}
use Rattle.replay_log.specs.Replays.{IsIllegalAt, emits}
use Rattle.trace_text.specs.declared.span.FrameSpan.{FrameSpan}
use Rattle.page_text.specs.Films.{film_of}
use Rattle.page_text.specs.Frames.{frames_to}
use Rattle.page_text.specs.declared.filmed.Filmed.{Filmed}
use Rattle.page_text.specs.Pages.{page_of}
use Rattle.command_line.specs.declared.program_fault.Fault.{Fault}
use Rattle.command_line.specs.declared.program_fault.Fault.TheVariants.{IllegalEvent, Incomplete, OutOfMemory, Write}
use Rattle.command_line.specs.Faults.{IsReadingFault}
use Rattle.level_text.specs.Games.{spelled_game}

-- what the files of a level, a script and a live part hold, and what the level is called
pub record PageSources : Type 0 where
  pub name : List ℕ
  pub level : List ℕ
  pub script : List ℕ
  pub live : List ℕ

-- the frames that so many events show, kept as changes
abbrev pub film_to : Game → List Event → (done : ℕ) → List ℕ
film_to g events done = film_of (frames_to g (emits (take done events)))

-- the page of a game and a list of events, so many of which are done, and behind it the live part as it is
abbrev pub page_for : Game → PageSources → Numbers → List Event → (done : ℕ) → FrameSpan → List ℕ
page_for g sources settings events done span =
    page_of sources.name sources.level sources.script settings events done (emits (take done events)) (film_to g events done) span
    ++ sources.live

-- the log's bytes are that of these settings and events, of which so many are legal: all, or those before the first that isn't
pub record IsDoneLog (g : Game) (log : List ℕ) (settings : Numbers) (events : List Event) (done : ℕ) : Type 0 where
  pub reading : IsLog log settings events
  pub lawful : IsLegalList (setup_for g settings) (take done events)
  pub end : (done ≡ length events) ⊎ IsIllegalAt (setup_for g settings) events done

-- the page of the log was written, of which all events are legal and show all frames
abbrev pub Pages : (old new : Option (List ℕ)) → PageSources → FrameSpan → (log : List ℕ) → Game → Type 0
Pages old new sources span log g = (settings : Numbers) × (events : List Event) × IsDoneLog g log settings events (length events)
    × (settings.frames ≤ emits events) × Appends old new (page_for g sources settings events (length events) span)

-- what is said of a log whose page is written: all is shown
pub record IsWhole (settings : Numbers) (events : List Event) (filmed : Filmed) : Type 0 where
  pub all : length events ≤ filmed.done
  pub whole : settings.frames ≤ filmed.shown

-- or an event isn't legal, or frames are missing
abbrev pub IsShort : Numbers → List Event → Filmed → Fault → Type 0
IsShort settings events filmed fault =
    ((filmed.done < length events) × (fault ≡ IllegalEvent filmed.done))
    ⊎ ((length events ≤ filmed.done) × (filmed.shown < settings.frames) × (fault ≡ Incomplete filmed.shown settings.frames))

-- nothing was written, or a first part of the page of the log
abbrev pub PagesPart : (old new : Option (List ℕ)) → PageSources → FrameSpan → (log : List ℕ) → Game → Type 0
PagesPart old new sources span log g = Keeps old new ⊎ ((settings : Numbers) × (events : List Event) × (done : ℕ)
    × IsDoneLog g log settings events done × AppendsPart old new (page_for g sources settings events done span))

-- the page of what is legal of the log was written
abbrev pub PagesFew : (old new : Option (List ℕ)) → PageSources → FrameSpan → (log : List ℕ) → Game → Type 0
PagesFew old new sources span log g = (settings : Numbers) × (events : List Event) × (done : ℕ)
    × IsDoneLog g log settings events done × Appends old new (page_for g sources settings events done span)

-- what is said only once that page is written
abbrev pub IsSaidLast : Fault → Type 0
IsSaidLast (IllegalEvent index) = Unit {0}
IsSaidLast (Incomplete shown all) = Unit {0}
IsSaidLast _ = ⊥

-- a log that can be read, but isn't shown whole: there was no memory, a write failed, or the page was written of a log of which
-- an event isn't legal, or that shows fewer frames than it is of
abbrev pub IsShowingFault : Game → List Event → Numbers → Fault → Type 0
IsShowingFault g events settings fault =
    (fault ≡ OutOfMemory) ⊎ ((fault ≡ Write)
    ⊎ (((done : ℕ) × IsIllegalAt (setup_for g settings) events done × (fault ≡ IllegalEvent done))
    ⊎ ((fault ≡ Incomplete (emits events) settings.frames) × IsLegalList (setup_for g settings) events × (emits events < settings.frames))))

abbrev pub IsPageFault : List ℕ → Fault → Game → Type 0
IsPageFault log fault g = IsReadingFault log fault
    ⊎ ((settings : Numbers) × (events : List Event) × IsLog log settings events × IsShowingFault g events settings fault)

-- of some level, script and log, for words that name files, of which no contract says what they hold
abbrev pub PagesSome : (old new : Option (List ℕ)) → FrameSpan → Type 0
PagesSome old new span = (sources : PageSources) × (log : List ℕ) × IsSomeAnd (spelled_game sources.level sources.script) (Pages old new sources span log)

abbrev pub PagesSomePart : (old new : Option (List ℕ)) → FrameSpan → Type 0
PagesSomePart old new span = Keeps old new
    ⊎ ((sources : PageSources) × (log : List ℕ) × IsSomeAnd (spelled_game sources.level sources.script) (PagesPart old new sources span log))
