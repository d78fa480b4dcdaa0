-- The stretches in which workers run jobs, a line of eight numbers for each.
use Rattle.std.specs.Prelude.{ℕ, ◌+◌, ◌-◌, Bool, if◌then◌else◌, List, [], ◌∷◌, ◌++◌, decimal, Option, Some, None}
use Rattle.job_core.specs.declared.names.JobName.{JobName}
use Rattle.job_core.specs.declared.names.JobName.TheVariants.{Logic, Think, Path, Draw}
use Rattle.job_core.specs.declared.names.Event.{Event}
use Rattle.job_core.specs.declared.names.Event.TheVariants.{Start, Resume, Ask, Spread, Hold, Finish, Emit, Stop}
use Rattle.trace_text.specs.declared.slice.Slice.{Slice}
use Rattle.trace_text.specs.declared.span.FrameSpan.{FrameSpan}
use Rattle.trace_text.specs.Slices.{slices_of}
use Rattle.job_core.specs.Names.{frame_of}
use Rattle.trace_text.specs.Spans.{has_frame}

-- a number, and the byte that ends it: a comma (44), or the line's feed (10)
abbrev pub ended : (number end : ℕ) → List ℕ
ended number end = decimal number ++ end ∷ []

-- ---- the job

abbrev pub kind_of : JobName → ℕ
kind_of (Logic frame) = 0
kind_of (Think frame agent) = 1
kind_of (Path frame agent question) = 2
kind_of (Draw frame band) = 3

-- the agent or the band
abbrev pub number_of : JobName → ℕ
number_of (Logic frame) = 0
number_of (Think frame agent) = agent
number_of (Path frame agent question) = agent
number_of (Draw frame band) = band

abbrev pub question_of : JobName → ℕ
question_of (Logic frame) = 0
question_of (Think frame agent) = 0
question_of (Path frame agent question) = question
question_of (Draw frame band) = 0

abbrev pub job_text : JobName → List ℕ
job_text job = ended (kind_of job) 44 ++ ended (frame_of job) 44 ++ ended (number_of job) 44 ++ ended (question_of job) 10

-- ---- the stretch

-- twice how its worker left the job
abbrev pub left_of : Option Event → ℕ
left_of (Some (Spread worker job)) = 0
left_of (Some (Hold worker job)) = 2
left_of (Some (Ask worker job)) = 4
left_of (Some (Finish worker job)) = 6
left_of (Some (Start worker job)) = 10
left_of (Some (Resume worker job)) = 10
left_of (Some (Emit frame)) = 10
left_of (Some Stop) = 10
left_of None = 8

-- and one more where the job waited before
abbrev pub how_of : Bool → Option Event → ℕ
how_of goes_on next = if goes_on then left_of next + 1 else left_of next

-- the worker, how many events behind the begin of the slice before it begins, for how many events it goes on, and how
abbrev pub stretch_text : (last : ℕ) → Slice → List ℕ
stretch_text last slice =
    ended slice.worker 44 ++ ended (slice.begin - last) 44 ++ ended (slice.end - slice.begin) 44 ++ ended (how_of slice.goes_on slice.next) 44

-- ---- the lines

abbrev pub slice_text : (last : ℕ) → Slice → List ℕ
slice_text last slice = stretch_text last slice ++ job_text slice.job

-- none where the job's frame is not looked at
abbrev pub text_within : FrameSpan → (last : ℕ) → Slice → List ℕ
text_within span last slice = if has_frame span (frame_of slice.job) then slice_text last slice else []

-- where the last slice that is told begins, with this one
abbrev pub begin_within : FrameSpan → (last : ℕ) → Slice → ℕ
begin_within span last slice = if has_frame span (frame_of slice.job) then slice.begin else last

abbrev pub lines_from : FrameSpan → (last : ℕ) → List Slice → List ℕ
lines_from span last [] = []
lines_from span last (slice ∷ slices) = text_within span last slice ++ lines_from span (begin_within span last slice) slices

abbrev pub slices_text : FrameSpan → List Event → List ℕ
slices_text span events = lines_from span 0 (slices_of events)
