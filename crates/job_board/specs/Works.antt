-- Work that a board has done itself: of which job it is, and where the job stands.
use Rattle.std.specs.Prelude.{◌≡◌, ◌<◌, ℕ, List, length, Option, Some, None, slice_index_or}
use Rattle.game_rules.specs.Game.{Game}
use Rattle.job_core.specs.declared.names.JobName.{JobName}
use Rattle.job_core.specs.declared.names.JobName.TheVariants.{Logic, Think}
use Rattle.job_core.specs.Core.{Runs, IsLegalList}
use Rattle.frame_state.specs.Contents.{questions_in}
use Rattle.frame_state.specs.declared.logic_step.LogicStep.TheVariants.{Begins as BeginsStep, Turned as TurnedStep}
use Rattle.frame_params.specs.declared.think_step.ThinkStep.TheVariants.{Ended as EndedStep, Asks as AsksStep}
use Rattle.frame_params.specs.declared.board_step.BoardStep.{BoardStep}
use Rattle.frame_params.specs.declared.board_step.BoardStep.TheVariants.{Logic as LogicStep, Think as ThinkStep, Path as PathStep, Draw as DrawStep}
use Rattle.task_board.specs.Boards.{Played, setup_in, state_in}
use Rattle.task_board.specs.Dones.{game_done, job_done, IsDoneAt}
use Rattle.task_board.specs.declared.done.Done.{Done}
use Rattle.task_board.specs.declared.done.Done.TheVariants.{Turned, Thought, Way, Drawn}
use Rattle.job_board.specs.declared.work.Work.{Work}
use Rattle.job_board.specs.declared.work.Work.TheVariants.{Begins, Asks, Ends}

-- what a board is told of the work of a job of this frame
abbrev pub work_told : ℕ → BoardStep → Work
work_told f (LogicStep BeginsStep) = Begins f
work_told f (LogicStep (TurnedStep turn)) = Ends (Turned turn)
work_told f (ThinkStep (EndedStep thought)) = Ends (Thought thought)
work_told f (ThinkStep (AsksStep parked)) = Asks parked
work_told f (PathStep way) = Ends (Way way)
work_told f (DrawStep mark) = Ends (Drawn mark)

-- the job is over at this step: a Logic that has spread, a Think with no question left, a Path or a Draw
abbrev pub IsOver : Done → ℕ → Type 0
IsOver (Turned turn) k = 0 < k
IsOver (Thought thought) k = IsDoneAt (Thought thought) k
IsOver _ k = Unit {0}

-- what the work of a job comes to that stands at this step: a Logic at its start begins, a Think with a question left asks
-- it, and each other job is over
abbrev pub IsWorkOf : Game → JobName → ℕ → Work → Type 0
IsWorkOf g j k (Begins f) = (Logic f ≡ j) × (k ≡ 0)
IsWorkOf g j k (Asks parked) = (Think parked.frame parked.agent ≡ j) × (parked.question ≡ k) × (parked.game ≡ g) × (k < questions_in parked.game parked.frame parked.agent)
IsWorkOf g j k (Ends done) = (job_done done ≡ j) × (game_done done ≡ g) × IsOver done k

-- ---- a worker's work

-- it is of the run's game, and of the job that the worker runs, where that job stands
abbrev pub IsWorkBy : Played → ℕ → Option Work → Type 0
IsWorkBy b w None = Unit {0}
IsWorkBy b w (Some work) = (j : JobName) × (k : ℕ) × ((state_in b).phase j ≡ Runs w k) × IsWorkOf b.game j k work

-- the events are a legal list, and each worker has a place for its work
pub record IsPlaying (b : Played) (works : List (Option Work)) : Type 0 where
  pub lawful : IsLegalList (setup_in b) b.events
  pub places : length works ≡ b.numbers.workers
  pub each : (w : ℕ) → IsWorkBy b w (slice_index_or works w None)

-- no worker below n has work
abbrev pub AreNone : List (Option Work) → ℕ → Type 0
AreNone works n = (w : ℕ) → w < n → slice_index_or works w None ≡ None
