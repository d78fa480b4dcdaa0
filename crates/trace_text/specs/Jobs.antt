-- What an entry of a trace says of a slice: where it stands, which job it is of, how that was begun and left, and what joins it with others.
use Rattle.std.specs.Prelude.{ℕ, ◌+◌, ◌*◌, Bool, true, if◌then◌else◌, List, [], ◌++◌, codes, decimal, Option, Some, None}
use Rattle.job_core.specs.declared.names.JobName.{JobName}
use Rattle.job_core.specs.declared.names.JobName.TheVariants.{Logic, Think, Path, Draw}
use Rattle.job_core.specs.declared.names.Event.{Event}
use Rattle.job_core.specs.declared.names.Event.TheVariants.{Start, Resume, Ask, Spread, Hold, Finish, Emit, Stop}
use Rattle.trace_text.specs.declared.board.Board.{Board}
use Rattle.trace_text.specs.Boards.{agent_text, joined_in}

-- what a job is called
abbrev pub name_text : Board → JobName → List ℕ
name_text board (Logic frame) = codes "Logic " ++ decimal frame
name_text board (Think frame agent) = codes "Think " ++ decimal frame ++ agent_text board agent
name_text board (Path frame agent question) = codes "Path " ++ decimal frame ++ agent_text board agent ++ codes "." ++ decimal question
name_text board (Draw frame band) = codes "Draw " ++ decimal frame ++ codes "." ++ decimal band

abbrev pub kind_text : JobName → List ℕ
kind_text (Logic frame) = codes "logic"
kind_text (Think frame agent) = codes "think"
kind_text (Path frame agent question) = codes "path"
kind_text (Draw frame band) = codes "draw"

-- the numbers of a job
abbrev pub numbers_text : JobName → List ℕ
numbers_text (Logic frame) = codes "\"frame\":" ++ decimal frame
numbers_text (Think frame agent) = codes "\"frame\":" ++ decimal frame ++ codes ",\"agent\":" ++ decimal agent
numbers_text (Path frame agent question) = codes "\"frame\":" ++ decimal frame ++ codes ",\"agent\":" ++ decimal agent ++ codes ",\"question\":" ++ decimal question
numbers_text (Draw frame band) = codes "\"frame\":" ++ decimal frame ++ codes ",\"band\":" ++ decimal band

-- how a worker left its job
abbrev pub left_text : Option Event → List ℕ
left_text (Some (Ask worker job)) = codes "asks"
left_text (Some (Spread worker job)) = codes "spreads"
left_text (Some (Hold worker job)) = codes "holds"
left_text (Some (Finish worker job)) = codes "finishes"
left_text (Some (Start worker job)) = codes "is broken off"
left_text (Some (Resume worker job)) = codes "is broken off"
left_text (Some (Emit frame)) = codes "is broken off"
left_text (Some Stop) = codes "is broken off"
left_text None = codes "is not over"

abbrev pub begun_text : Bool → List ℕ
begun_text goes_on = if goes_on then codes "goes on" else codes "starts"

-- an entry of a slice begins
unfoldable pub entry_text : List ℕ
entry_text = codes ",\n{\"ph\":\"X\",\"pid\":1"

-- a thread's lane, and from which event on how long
unfoldable pub where_text : (thread begin long : ℕ) → List ℕ
where_text thread begin long = entry_text ++ codes ",\"tid\":" ++ decimal thread ++ codes ",\"ts\":" ++ decimal begin ++ codes ",\"dur\":" ++ decimal long

-- the job
unfoldable pub what_text : Board → JobName → List ℕ
what_text board job = codes ",\"cat\":\"" ++ kind_text job ++ codes "\",\"name\":\"" ++ name_text board job ++ codes "\",\"args\":{" ++ numbers_text job

-- how it was begun and left, which ends what is told of the job
unfoldable pub how_text : Bool → Option Event → List ℕ
how_text goes_on next = codes ",\"begun\":\"" ++ begun_text goes_on ++ codes "\",\"left\":\"" ++ left_text next ++ codes "\"}"

-- The number that joins the slices of a Logic, or of a Think and the Paths that it asks: where a frame has 100 numbers, frame f's Logic has 100 f, and
-- agent a's Think 100 f + a + 1. A Draw is joined with nothing.
abbrev pub joined_by : Board → JobName → Option ℕ
joined_by board (Logic frame) = Some (frame * joined_in board)
joined_by board (Think frame agent) = Some (frame * joined_in board + agent + 1)
joined_by board (Path frame agent question) = Some (frame * joined_in board + agent + 1)
joined_by board (Draw frame band) = None

-- whether an arrow leads into the slice: a Path's comes from its Think, that of a job which goes on from what it waited for
abbrev pub is_led_into : JobName → Bool → Bool
is_led_into (Path frame agent question) goes_on = true
is_led_into _ goes_on = goes_on

abbrev pub into_text : Bool → List ℕ
into_text led = if led then codes ",\"flow_in\":true" else []

-- the arrows from and to a slice, and the end of its entry
abbrev pub arrow_from : Option ℕ → Bool → List ℕ
arrow_from None led = codes "}"
arrow_from (Some number) led = (codes ",\"bind_id\":\"" ++ decimal number) ++ codes "\",\"flow_out\":true" ++ into_text led ++ codes "}"

abbrev pub arrow_text : Board → JobName → Bool → List ℕ
arrow_text board job goes_on = arrow_from (joined_by board job) (is_led_into job goes_on)
