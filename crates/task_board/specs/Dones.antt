-- Of which game and job a value is that is handed in, and where the job is over.
use Rattle.std.specs.Prelude.{◌≡◌, ℕ, ◌⊎◌}
use Rattle.game_rules.specs.Game.{Game}
use Rattle.job_core.specs.declared.names.JobName.{JobName}
use Rattle.job_core.specs.declared.names.JobName.TheVariants.{Logic, Think, Path, Draw}
use Rattle.frame_state.specs.Contents.{questions_in}
use Rattle.frame_params.specs.declared.board_step.BoardStep.{BoardStep}
use Rattle.frame_params.specs.declared.board_step.BoardStep.TheVariants.{Logic as LogicStep, Think as ThinkStep, Path as PathStep, Draw as DrawStep}
use Rattle.frame_state.specs.declared.logic_step.LogicStep.TheVariants.{Turned as TurnedStep}
use Rattle.frame_params.specs.declared.think_step.ThinkStep.TheVariants.{Ended}
use Rattle.task_board.specs.declared.done.Done.{Done}
use Rattle.task_board.specs.declared.done.Done.TheVariants.{Turned, Thought, Way, Drawn}

abbrev pub game_done : Done → Game
game_done (Turned t) = t.game
game_done (Thought t) = t.game
game_done (Way w) = w.game
game_done (Drawn mark) = mark.game

abbrev pub job_done : Done → JobName
job_done (Turned t) = Logic t.frame
job_done (Thought t) = Think t.frame t.number
job_done (Way w) = Path w.frame w.agent w.question
job_done (Drawn mark) = Draw mark.frame mark.number

-- as a board is told of it
abbrev pub step_done : Done → BoardStep
step_done (Turned turn) = LogicStep (TurnedStep turn)
step_done (Thought thought) = ThinkStep (Ended thought)
step_done (Way way) = PathStep way
step_done (Drawn mark) = DrawStep mark

-- it is of another job, or of another game
abbrev pub IsOther : Done → Game → JobName → Type 0
IsOther done g job = (job_done done ≡ job → ⊥) ⊎ (game_done done ≡ g → ⊥)

abbrev pub IsOtherDone : Done → Game → JobName → ℕ → Type 0
IsOtherDone done g job step = IsOther done g job

-- the job is over at this step: a Logic once it has spread, a Think once all its questions are asked
abbrev pub IsDoneAt : Done → ℕ → Type 0
IsDoneAt (Turned t) step = step ≡ 1
IsDoneAt (Thought t) step = step ≡ questions_in t.game t.frame t.number
IsDoneAt _ step = Unit {0}
