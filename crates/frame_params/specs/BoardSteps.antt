-- What a board is told of a task's work, and the band that does not go to the board.
use Rattle.std.specs.Prelude.{◌≡◌, Option, Some, None}
use Rattle.game_rules.specs.Game.{Game}
use Rattle.frame_state.specs.Names.{PartOf}
use Rattle.frame_state.specs.Logic.{IsLogicStep}
use Rattle.frame_params.specs.Thinks.{IsThinkStep}
use Rattle.frame_params.specs.declared.task.Task.{Task}
use Rattle.frame_params.specs.declared.task.Task.TheVariants.{Logic as LogicTask, Think as ThinkTask, Path as PathTask, Draw as DrawTask}
use Rattle.frame_state.specs.declared.logic_step.LogicStep.TheVariants.{Begins, Turned}
use Rattle.frame_params.specs.declared.think_step.ThinkStep.TheVariants.{Ended, Asks}
use Rattle.frame_params.specs.declared.step.Step.{Step}
use Rattle.frame_params.specs.declared.step.Step.TheVariants.{Logic as LogicStep, Think as ThinkStep, Path as PathStep, Draw as DrawStep}
use Rattle.frame_params.specs.declared.board_step.BoardStep.{BoardStep}
use Rattle.frame_params.specs.declared.board_step.BoardStep.TheVariants.{Logic, Think, Path, Draw}

-- of a drawn band its mark, which has the band's game, frame and number
abbrev pub told : Step → BoardStep
told (LogicStep step) = Logic step
told (ThinkStep step) = Think step
told (PathStep way) = Path way
told (DrawStep band) = Draw band

abbrev pub band_drawn : Step → Option PartOf
band_drawn (DrawStep band) = Some band
band_drawn step = None

-- what a board is told of a task's work is of its own game and job
abbrev pub IsToldOf : Task → BoardStep → Type 0
IsToldOf (LogicTask l) (Logic step) = IsLogicStep l step
IsToldOf (ThinkTask t) (Think step) = IsThinkStep t step
IsToldOf (PathTask q) (Path way) = way ≡ q
IsToldOf (DrawTask d) (Draw mark) = mark ≡ d
IsToldOf task step = ⊥

-- it is of this game; that a frame begins is of any
abbrev pub IsToldIn : Game → BoardStep → Type 0
IsToldIn g (Logic Begins) = Unit {0}
IsToldIn g (Logic (Turned turn)) = turn.game ≡ g
IsToldIn g (Think (Ended thought)) = thought.game ≡ g
IsToldIn g (Think (Asks parked)) = parked.game ≡ g
IsToldIn g (Path way) = way.game ≡ g
IsToldIn g (Draw mark) = mark.game ≡ g
