-- What comes next on a board: what can be shown, and who is given which job.
use Rattle.std.specs.Prelude.{◌≡◌, ◌<◌, ℕ, ◌⊎◌, Some}
use Rattle.job_core.specs.declared.names.JobName.{JobName}
use Rattle.job_core.specs.declared.names.Event.{Event}
use Rattle.job_core.specs.declared.names.Event.TheVariants.{Start, Resume, Emit}
use Rattle.job_core.specs.Core.{Waits, IsIdle, IsLegal}
use Rattle.job_core.specs.Priorities.{GoesFirst}
use Rattle.board_model.specs.Lists.{first_place}
use Rattle.board_model.specs.Board.{core_of, holds}
use Rattle.board_model.specs.Pick.{Ready, New}
use Rattle.task_board.specs.Boards.{Played, setup_in, state_in, pick_in}

-- a worker may start the job, or go on with it where it stands
abbrev pub MayBeTakenUp : Played → JobName → ℕ → Type 0
MayBeTakenUp b j k =
    (w : ℕ) × ((IsLegal (setup_in b) (state_in b) (Start w j) × (k ≡ 0)) ⊎ (IsLegal (setup_in b) (state_in b) (Resume w j) × ((state_in b).phase j ≡ Waits k)))

abbrev pub NothingToShow : Played → Type 0
NothingToShow b = (f : ℕ) → IsLegal (setup_in b) (state_in b) (Emit f) → ⊥

-- no worker below n is idle
abbrev pub AllBusy : Played → ℕ → Type 0
AllBusy b n = (w : ℕ) → w < n → IsIdle (state_in b) w → ⊥

-- what `take` would do for the lowest idle worker
abbrev pub IsGiven : Played → Event → Type 0
IsGiven b (Start w j) = AllBusy b w × GoesFirst (setup_in b) (state_in b) j × (pick_in b ≡ Some (New j))
IsGiven b (Resume w j) = AllBusy b w × GoesFirst (setup_in b) (state_in b) j × (pick_in b ≡ Some (Ready (first_place (holds j) (core_of (setup_in b) b.events).seats.jobs)))
IsGiven b event = ⊥

-- no worker starts a job or goes on with one
abbrev pub NobodyStarts : Played → Type 0
NobodyStarts b = (w : ℕ) (j : JobName) → (IsLegal (setup_in b) (state_in b) (Start w j) → ⊥) × (IsLegal (setup_in b) (state_in b) (Resume w j) → ⊥)
