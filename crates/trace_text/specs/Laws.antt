-- What is said of the slices of a list, and of the numbers that join some of them.
use Rattle.std.specs.Prelude.{ℕ, zero, suc, ◌+◌, ◌≡◌, ◌≤◌, ◌<◌, ◌⊎◌, List, [], ◌∷◌, length}
use Rattle.job_core.specs.declared.names.JobName.{JobName}
use Rattle.job_core.specs.declared.names.Event.{Event}
use Rattle.job_core.specs.declared.names.Event.TheVariants.{Start, Resume, Ask, Spread, Hold, Finish}
use Rattle.job_core.specs.declared.names.JobName.TheVariants.{Think, Path}
use Rattle.trace_text.specs.declared.board.Board.{Board}
use Rattle.trace_text.specs.declared.board.Board.TheVariants.{Play, Jobs}
use Rattle.trace_text.specs.declared.slice.Slice.{Slice}

-- one ends before the other begins, where one worker runs both
abbrev pub AreApart : Slice → Slice → Type 0
AreApart one other = one.worker ≡ other.worker → one.end ≤ other.begin

-- one ends before the other begins, where both are of one job
abbrev pub AreInTurn : Slice → Slice → Type 0
AreInTurn one other = one.job ≡ other.job → one.end ≤ other.begin

abbrev pub BeginsBefore : Slice → Slice → Type 0
BeginsBefore one other = one.begin < other.begin

abbrev pub IsWithin : ℕ → Slice → Type 0
IsWithin count slice = (slice.begin < slice.end) × (slice.end ≤ count)

-- 1 for an event that begins a slice
abbrev pub begins : Event → ℕ
begins (Start worker job) = 1
begins (Resume worker job) = 1
begins _ = 0

-- the event is the one at this place of the list
abbrev pub StandsAt : ℕ → Event → List Event → Type 0
StandsAt at event [] = ⊥
StandsAt zero event (first ∷ events) = event ≡ first
StandsAt (suc at) event (first ∷ events) = StandsAt at event events

-- the worker leaves the job by this event: it asks, spreads, holds or finishes
abbrev pub IsLeft : ℕ → JobName → Event → Type 0
IsLeft worker job event = (event ≡ Ask worker job) ⊎ ((event ≡ Spread worker job) ⊎ ((event ≡ Hold worker job) ⊎ (event ≡ Finish worker job)))

-- the slice ends where its worker leaves its job, or the list ends before that
abbrev pub EndsIn : List Event → Slice → Type 0
EndsIn events slice = (slice.end ≡ length events) ⊎ ((event : Event) × StandsAt slice.end event events × IsLeft slice.worker slice.job event)

-- how many agents there are, or may be
abbrev pub agents_of : Board → ℕ
agents_of (Play workers) = 26
agents_of (Jobs workers agents) = agents

-- the agent, from 1 on, whose Think or Path the job is; 0 for none
abbrev pub agent_in : JobName → ℕ
agent_in (Think frame agent) = agent + 1
agent_in (Path frame agent question) = agent + 1
agent_in _ = 0

abbrev pub IsOf : Board → JobName → Type 0
IsOf board job = agent_in job ≤ agents_of board
