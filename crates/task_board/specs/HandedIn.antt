-- What a worker hands in: what the work of its job came to, and the event that follows from it.
use Rattle.std.specs.Prelude.{◌≡◌, ℕ, ◌⊎◌}
use Rattle.job_core.specs.declared.names.JobName.TheVariants.{Logic, Think, Path, Draw}
use Rattle.job_core.specs.declared.names.Event.TheVariants.{Ask, Spread, Hold, Finish}
use Rattle.job_core.specs.Core.{Runs}
use Rattle.frame_params.specs.declared.board_step.BoardStep.{BoardStep}
use Rattle.frame_params.specs.declared.board_step.BoardStep.TheVariants.{Logic as LogicStep, Think as ThinkStep, Path as PathStep, Draw as DrawStep}
use Rattle.frame_state.specs.declared.logic_step.LogicStep.TheVariants.{Begins, Turned}
use Rattle.frame_params.specs.declared.think_step.ThinkStep.TheVariants.{Ended, Asks}
use Rattle.job_scheduler.specs.declared.board_fault.BoardFault.{BoardFault}
use Rattle.job_scheduler.specs.declared.board_fault.BoardFault.TheVariants.{Illegal}
use Rattle.task_board.specs.Boards.{Played, state_in, Happens, IsDoneByLogic, IsRefused, NoOther}
use Rattle.task_board.specs.Dones.{IsOtherDone}
use Rattle.task_board.specs.Parked.{IsOtherParked}
use Rattle.task_board.specs.declared.done.Done.TheVariants.{Turned as TurnedDone, Thought as ThoughtDone, Way as WayDone, Drawn as DrawnDone}

-- a frame that begins has spread, or holds
abbrev pub HasBegun : (old new : Played) → ℕ → Type 0
HasBegun old new w = IsDoneByLogic old new (λ f. Spread w (Logic f)) ⊎ IsDoneByLogic old new (λ f. Hold w (Logic f))

-- the worker's event happened that its step calls for: a question is asked at which its Think stands
abbrev pub IsHandedIn : (old new : Played) → ℕ → BoardStep → Type 0
IsHandedIn old new w (LogicStep Begins) = HasBegun old new w
IsHandedIn old new w (LogicStep (Turned turn)) = Happens old new (Finish w (Logic turn.frame))
IsHandedIn old new w (ThinkStep (Ended thought)) = Happens old new (Finish w (Think thought.frame thought.number))
IsHandedIn old new w (ThinkStep (Asks parked)) = Happens old new (Ask w (Think parked.frame parked.agent)) × ((state_in old).phase (Think parked.frame parked.agent) ≡ Runs w parked.question)
IsHandedIn old new w (PathStep way) = Happens old new (Finish w (Path way.frame way.agent way.question))
IsHandedIn old new w (DrawStep mark) = Happens old new (Finish w (Draw mark.frame mark.number))

-- as a spread is refused, and where one is illegal as a hold is
abbrev pub IsBeginRefused : Played → ℕ → BoardFault → Type 0
IsBeginRefused b w fault =
    ((fault ≡ Illegal → ⊥) × IsRefused b w NoOther (Spread w) fault)
    ⊎ (IsRefused b w NoOther (Spread w) Illegal × IsRefused b w NoOther (Hold w) fault)

-- as the call for that event is refused
abbrev pub IsHandInRefused : Played → ℕ → BoardStep → BoardFault → Type 0
IsHandInRefused b w (LogicStep Begins) fault = IsBeginRefused b w fault
IsHandInRefused b w (LogicStep (Turned turn)) fault = IsRefused b w (IsOtherDone (TurnedDone turn) b.game) (Finish w) fault
IsHandInRefused b w (ThinkStep (Ended thought)) fault = IsRefused b w (IsOtherDone (ThoughtDone thought) b.game) (Finish w) fault
IsHandInRefused b w (ThinkStep (Asks parked)) fault = IsRefused b w (IsOtherParked parked b.game) (Ask w) fault
IsHandInRefused b w (PathStep way) fault = IsRefused b w (IsOtherDone (WayDone way) b.game) (Finish w) fault
IsHandInRefused b w (DrawStep mark) fault = IsRefused b w (IsOtherDone (DrawnDone mark) b.game) (Finish w) fault
