-- What is written of a log.
use Rattle.std.specs.Prelude.{ℕ, ◌≡◌, ◌⊎◌, List, Option}
use Rattle.std.specs.Io.KnownBytes.{Appends, Keeps}
use Rattle.byte_streams.specs.Streams.{AppendsPart}
use Rattle.job_core.specs.declared.names.Event.{Event}
use Rattle.job_scheduler.specs.Numbers.{Numbers}
use Rattle.log_text.specs.declared.log_fault.LogFault.{LogFault}
use Rattle.log_text.specs.declared.log_fault.LogFault.TheVariants as logs
use Rattle.log_text.specs.Readings.{IsLog, BeginsWithNoHead, IsFirstFaultyLine}
use Rattle.jobs_text.specs.declared.head.Head.{Head}
use Rattle.jobs_text.specs.Readings.{IsLog as IsJobsLog, BeginsWithNoHead as BeginsWithNoJobsHead, IsFirstFaultyLine as IsFirstFaultyJobsLine}
use Rattle.trace_text.specs.declared.board.Board.{Board}
use Rattle.trace_text.specs.declared.board.Board.TheVariants.{Play, Jobs}
use Rattle.trace_text.specs.declared.span.FrameSpan.{FrameSpan}
use Rattle.trace_text.specs.Trace.{trace_of}
use Rattle.command_line.specs.declared.program_fault.Fault.{Fault}
use Rattle.command_line.specs.declared.program_fault.Fault.TheVariants.{Write}
use Rattle.command_line.specs.Faults.{IsOfLog}
use Rattle.view_commands.specs.Paging.{PagesSome, PagesSomePart}
use Rattle.view_commands.specs.declared.request.ViewWords.{ViewWords}
use Rattle.view_commands.specs.declared.request.ViewWords.TheVariants.{Trace, Page}

-- the bytes are the log of a play, or of jobs alone, with these events; one kind's first line is never the other's
abbrev pub IsLogOn : List ℕ → Board → List Event → Type 0
IsLogOn log board events = ((settings : Numbers) × IsLog log settings events × (board ≡ Play settings.workers))
    ⊎ ((head : Head) × IsJobsLog log head events × (board ≡ Jobs head.workers head.agents))

-- the first fault of bytes that are neither
abbrev pub IsFaultOfBoth : List ℕ → LogFault → Type 0
IsFaultOfBoth log logs.OutOfMemory = ⊥
IsFaultOfBoth log logs.Head = BeginsWithNoHead log × BeginsWithNoJobsHead log
IsFaultOfBoth log (logs.Line n) = IsFirstFaultyLine log n ⊎ IsFirstFaultyJobsLine log n

-- the trace of the events was written that the log's bytes spell
abbrev pub Traces : (old new : Option (List ℕ)) → FrameSpan → (log : List ℕ) → Type 0
Traces old new frames log = (board : Board) × (events : List Event) × IsLogOn log board events × Appends old new (trace_of board events frames)

-- nothing was written, or a first part of that trace
abbrev pub TracesPart : (old new : Option (List ℕ)) → FrameSpan → (log : List ℕ) → Type 0
TracesPart old new frames log =
    Keeps old new ⊎ ((board : Board) × (events : List Event) × IsLogOn log board events × AppendsPart old new (trace_of board events frames))

-- the bytes are no log, or there was no memory; or a write failed
abbrev pub IsTraceFault : List ℕ → Fault → Type 0
IsTraceFault log fault = ((f : LogFault) × ((f ≡ logs.OutOfMemory) ⊎ IsFaultOfBoth log f) × IsOfLog f fault)
    ⊎ ((board : Board) × (events : List Event) × IsLogOn log board events × (fault ≡ Write))

-- of some log, for words that name a file, of which no contract says what it holds
abbrev pub TracesSome : (old new : Option (List ℕ)) → FrameSpan → Type 0
TracesSome old new frames = (log : List ℕ) × Traces old new frames log

abbrev pub TracesSomePart : (old new : Option (List ℕ)) → FrameSpan → Type 0
TracesSomePart old new frames = Keeps old new ⊎ ((log : List ℕ) × TracesPart old new frames log)

-- what the words ask for is done
abbrev pub IsDone : (old new : Option (List ℕ)) → ViewWords → Type 0
IsDone old new (Trace log frames) = TracesSome old new frames
IsDone old new (Page level log script live frames) = PagesSome old new frames

-- or a part of it
abbrev pub IsPartDone : (old new : Option (List ℕ)) → ViewWords → Type 0
IsPartDone old new (Trace log frames) = TracesSomePart old new frames
IsPartDone old new (Page level log script live frames) = PagesSomePart old new frames
