-- What a hold of the lock tells of the board that it found, `old`: some board `new` follows by one event, and what is told
-- beside the event is true of that.
use Rattle.std.specs.Prelude.{◌≡◌, ◌↔◌, ◌<◌, ◌⊎◌, ℕ, Bool, true, IsTrue, Some, None}
use Rattle.std.specs.declared.sync.ledger.Ledger as ledger
use Rattle.job_core.specs.declared.names.Event.TheVariants.{Emit}
use Rattle.job_core.specs.Core.{IsComplete, IsLegal}
use Rattle.frame_state.specs.Names.{FrameOf}
use Rattle.frame_params.specs.declared.board_step.BoardStep.{BoardStep}
use Rattle.task_board.specs.Boards.{Played, setup_in, state_in, GivesJob, IsTaken, IsShown}
use Rattle.task_board.specs.HandedIn.{IsHandedIn}
use Rattle.run_shared.specs.Counts.{draws_ended}
use Rattle.run_shared.specs.declared.ledger.RunLedger as run_ledger
use Rattle.run_shared.specs.declared.given.Given.{Given}
use Rattle.run_shared.specs.declared.given.Given.TheVariants.{Task, Nothing, Over}

-- all frames are shown
abbrev pub IsDone : Played → Type 0
IsDone b = IsComplete (setup_in b) b.events

-- the next frame can be shown
abbrev pub ShowsFrame : Played → Type 0
ShowsFrame b = (f : ℕ) × IsLegal (setup_in b) (state_in b) (Emit f)

module _ {L : Type 0} {p : run_ledger.Ghosts L} {l : ledger.Ghosts L} where
  -- how many events happen where a worker is given this
  abbrev pub counts_in : Given L p l → ℕ
  counts_in (Task task is_more) = 1
  counts_in Nothing = 0
  counts_in Over = 0

  -- a worker is given a task, beside whether it asked for that and another one can be taken; or nothing, where no task can be
  -- taken now, or never more
  abbrev pub IsGiven : Played → ℕ → Bool → Given L p l → Type 0
  IsGiven old w asks (Task task is_more) = (new : Played) × IsTaken old new w (Some task.task) × (IsTrue is_more ↔ IsTrue asks × GivesJob new)
  IsGiven old w asks Nothing = IsTaken old old w None × (IsDone old → ⊥)
  IsGiven old w asks Over = IsDone old ⊎ ((state_in old).stopped ≡ true)

-- a worker's step is handed in, beside whether that ended a Draw and a frame can be shown now
abbrev pub HandsIn : Played → ℕ → BoardStep → Bool → Type 0
HandsIn old w step shows = (new : Played) × IsHandedIn old new w step × (IsTrue shows ↔ (0 < draws_ended step) × ShowsFrame new)

-- a frame is shown, beside whether a task can be taken now
abbrev pub ShowsOne : Played → FrameOf → Bool → Type 0
ShowsOne old shown is_more = (new : Played) × IsShown old new shown × (IsTrue is_more ↔ GivesJob new)
