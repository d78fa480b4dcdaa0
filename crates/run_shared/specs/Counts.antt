-- Which events name a worker, and which show a frame; how many Draws end with a step.
use Rattle.std.specs.Prelude.{ℕ, Bool, true, false, ◌==◌, List}
use Rattle.job_core.specs.declared.names.Event.{Event}
use Rattle.job_core.specs.declared.names.Event.TheVariants.{Start, Resume, Ask, Spread, Hold, Finish, Emit, Stop}
use Rattle.frame_params.specs.declared.board_step.BoardStep.{BoardStep}
use Rattle.frame_params.specs.declared.board_step.BoardStep.TheVariants.{Draw}

abbrev pub names_worker : Event → Bool
names_worker (Emit f) = false
names_worker Stop = false
names_worker event = true

abbrev pub is_emit : Event → Bool
is_emit (Emit f) = true
is_emit event = false

-- it names this worker
abbrev pub names : ℕ → Event → Bool
names worker (Start w j) = w == worker
names worker (Resume w j) = w == worker
names worker (Ask w j) = w == worker
names worker (Spread w j) = w == worker
names worker (Hold w j) = w == worker
names worker (Finish w j) = w == worker
names worker (Emit f) = false
names worker Stop = false

-- how many Draws end with what a board is told
abbrev pub draws_ended : BoardStep → ℕ
draws_ended (Draw mark) = 1
draws_ended step = 0
