-- What a worker hands in is one event of its own.
use Rattle.std.proofs.Common.{◌≡◌, ℕ, refl, ⊎_elim}
use Rattle.job_core.specs.declared.names.JobName.TheVariants.{Logic as LogicJob, Think as ThinkJob, Path as PathJob, Draw as DrawJob}
use Rattle.job_core.specs.declared.names.Event.{Event}
use Rattle.job_core.specs.declared.names.Event.TheVariants.{Start, Resume, Ask, Spread, Hold, Finish, Emit, Stop}
use Rattle.frame_params.specs.declared.board_step.BoardStep.{BoardStep}
use Rattle.frame_params.specs.declared.board_step.BoardStep.TheVariants.{Logic, Think, Path, Draw}
use Rattle.frame_state.specs.declared.logic_step.LogicStep.TheVariants.{Begins, Turned}
use Rattle.frame_params.specs.declared.think_step.ThinkStep.TheVariants.{Ended, Asks}
use Rattle.task_board.specs.Boards.{Played, Happens}
use Rattle.task_board.specs.HandedIn.{IsHandedIn}

-- an event of this worker
abbrev pub IsBy : ℕ → Event → Type 0
IsBy w (Start v j) = w ≡ v
IsBy w (Resume v j) = w ≡ v
IsBy w (Ask v j) = w ≡ v
IsBy w (Spread v j) = w ≡ v
IsBy w (Hold v j) = w ≡ v
IsBy w (Finish v j) = w ≡ v
IsBy w (Emit f) = ⊥
IsBy w Stop = ⊥

pub handed_by : (old new : Played) (w : ℕ) (step : BoardStep) → IsHandedIn old new w step → (e : Event) × Happens old new e × IsBy w e
handed_by old new w (Logic Begins) h = ⊎_elim (λ d. (Spread w (LogicJob d.0), d.1, refl)) (λ d. (Hold w (LogicJob d.0), d.1, refl)) h
handed_by old new w (Logic (Turned turn)) h = (Finish w (LogicJob turn.frame), h, refl)
handed_by old new w (Think (Ended thought)) h = (Finish w (ThinkJob thought.frame thought.number), h, refl)
handed_by old new w (Think (Asks parked)) h = (Ask w (ThinkJob parked.frame parked.agent), h.0, refl)
handed_by old new w (Path way) h = (Finish w (PathJob way.frame way.agent way.question), h, refl)
handed_by old new w (Draw mark) h = (Finish w (DrawJob mark.frame mark.number), h, refl)
