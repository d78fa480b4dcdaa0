-- A list of events in Chrome's trace format: JSON, an entry a line. All is of process 1; a worker's thread is its number and one.
use Rattle.std.specs.Prelude.{ℕ, zero, suc, ◌+◌, ◌-◌, List, [], ◌∷◌, ◌++◌, codes, decimal, if◌then◌else◌}
use Rattle.std.specs.List.{flat_map}
use Rattle.job_core.specs.declared.names.Event.{Event}
use Rattle.job_core.specs.declared.names.Event.TheVariants.{Emit}
use Rattle.trace_text.specs.declared.board.Board.{Board}
use Rattle.trace_text.specs.Boards.{printer_of, title_text, workers_of}
use Rattle.trace_text.specs.declared.slice.Slice.{Slice}
use Rattle.trace_text.specs.declared.span.FrameSpan.{FrameSpan}
use Rattle.trace_text.specs.Slices.{slices_of}
use Rattle.job_core.specs.Names.{frame_of}
use Rattle.trace_text.specs.Spans.{has_frame}
use Rattle.trace_text.specs.Jobs.{where_text, what_text, how_text, arrow_text}

-- ---- the names of lanes, in the order of their threads

-- an entry that tells a lane's name, and one that puts it in its place
abbrev pub worker_text : (thread worker : ℕ) → List ℕ
worker_text thread worker = (codes ",\n{\"ph\":\"M\",\"pid\":1,\"tid\":" ++ decimal thread) ++ (codes ",\"name\":\"thread_name\",\"args\":{\"name\":\"worker " ++ decimal worker) ++ codes "\"}}"

abbrev pub printer_text : (thread : ℕ) → List ℕ
printer_text thread = (codes ",\n{\"ph\":\"M\",\"pid\":1,\"tid\":" ++ decimal thread) ++ codes ",\"name\":\"thread_name\",\"args\":{\"name\":\"printer" ++ codes "\"}}"

abbrev pub place_text : (thread : ℕ) → List ℕ
place_text thread = (codes ",\n{\"ph\":\"M\",\"pid\":1,\"tid\":" ++ decimal thread) ++ (codes ",\"name\":\"thread_sort_index\",\"args\":{\"sort_index\":" ++ decimal thread) ++ codes "}}"

abbrev pub lane_text : (thread worker : ℕ) → List ℕ
lane_text thread worker = worker_text thread worker ++ place_text thread

-- those of the first workers
abbrev pub workers_text : ℕ → List ℕ
workers_text zero = []
workers_text (suc worker) = workers_text worker ++ lane_text (worker + 1) worker

abbrev pub printer_lane_text : (thread : ℕ) → List ℕ
printer_lane_text thread = printer_text thread ++ place_text thread

abbrev pub lanes_text : Board → List ℕ
lanes_text board = workers_text (workers_of board) ++ printer_lane_text (printer_of board)

-- ---- the slices of jobs

abbrev pub slice_text : Board → Slice → List ℕ
slice_text board slice =
    where_text (slice.worker + 1) slice.begin (slice.end - slice.begin) ++ what_text board slice.job ++ how_text slice.goes_on slice.next
    ++ arrow_text board slice.job slice.goes_on

-- none where the job's frame is not looked at
abbrev pub text_within : Board → FrameSpan → Slice → List ℕ
text_within board span slice = if has_frame span (frame_of slice.job) then slice_text board slice else []

abbrev pub slices_text : Board → FrameSpan → List Slice → List ℕ
slices_text board span slices = flat_map (text_within board span) slices

-- ---- the frames shown, in the printer's lane

-- what is told of one, and the end of its entry
abbrev pub told_text : (frame : ℕ) → List ℕ
told_text frame = (codes ",\"cat\":\"emit\",\"name\":\"emit " ++ decimal frame) ++ (codes "\",\"args\":{\"frame\":" ++ decimal frame) ++ codes "}}"

abbrev pub emit_text : (thread at frame : ℕ) → List ℕ
emit_text thread at frame = where_text thread at 1 ++ told_text frame

-- of the event at this place
abbrev pub shown_text : (thread : ℕ) → FrameSpan → ℕ → Event → List ℕ
shown_text thread span at (Emit frame) = if has_frame span frame then emit_text thread at frame else []
shown_text thread span at _ = []

abbrev pub emits_from : (thread : ℕ) → FrameSpan → ℕ → List Event → List ℕ
emits_from thread span at [] = []
emits_from thread span at (event ∷ events) = shown_text thread span at event ++ emits_from thread span (suc at) events

abbrev pub emits_text : Board → FrameSpan → List Event → List ℕ
emits_text board span events = emits_from (printer_of board) span 0 events

-- ---- the whole

unfoldable pub head_text : Board → List ℕ
head_text board = codes "{\"traceEvents\":[\n{\"ph\":\"M\",\"pid\":1,\"name\":\"process_name\",\"args\":{\"name\":\"" ++ title_text board ++ codes ", a microsecond for each event\"}}"

-- of the frames that are looked at
abbrev pub trace_of : Board → List Event → FrameSpan → List ℕ
trace_of board events span = head_text board ++ lanes_text board ++ slices_text board span (slices_of events) ++ emits_text board span events ++ codes "\n]}\n"
