-- The tasks of all kinds: of which game and job they are, where the job stands, and what their work comes to.
use Rattle.std.specs.Prelude.{ℕ, ◌≡◌, nat_lt, false}
use Rattle.game_rules.specs.Game.{Game}
use Rattle.job_core.specs.declared.names.JobName.{JobName}
use Rattle.job_core.specs.declared.names.JobName.TheVariants.{Logic, Think, Path, Draw}
use Rattle.frame_state.specs.Names.{part_of, question_of, logic_of, think_of}
use Rattle.frame_params.specs.BoardSteps.{told, IsToldOf}
use Rattle.frame_params.specs.declared.task.Task.{Task}
use Rattle.frame_params.specs.declared.task.Task.TheVariants.{Logic as LogicTask, Think as ThinkTask, Path as PathTask, Draw as DrawTask}
use Rattle.frame_params.specs.declared.step.Step.{Step}

abbrev pub game_of : Task → Game
game_of (LogicTask l) = l.game
game_of (ThinkTask t) = t.game
game_of (PathTask q) = q.game
game_of (DrawTask d) = d.game

abbrev pub job_of : Task → JobName
job_of (LogicTask l) = Logic l.frame
job_of (ThinkTask t) = Think t.frame t.agent
job_of (PathTask q) = Path q.frame q.agent q.question
job_of (DrawTask d) = Draw d.frame d.number

-- The task of a job that stands at this step: a Logic is at step 0 at its start and at step 1 after its thinks, a Think
-- at the number of its questions that are answered.
abbrev pub IsTaskAt : Game → JobName → ℕ → Task → Type 0
IsTaskAt g (Logic f) step (LogicTask l) = l ≡ logic_of g f (nat_lt 0 step)
IsTaskAt g (Think f a) step (ThinkTask t) = t ≡ think_of g f a step
IsTaskAt g (Path f a i) step (PathTask q) = q ≡ question_of g f a i
IsTaskAt g (Draw f b) step (DrawTask d) = d ≡ part_of g f b
IsTaskAt g job step task = ⊥

-- what comes of a task's work is of its own game and job
abbrev pub IsStepOf : Task → Step → Type 0
IsStepOf task step = IsToldOf task (told step)

-- a Logic at its start, whose work takes no memory
abbrev pub IsBeginning : Task → Type 0
IsBeginning (LogicTask l) = l.has_spread ≡ false
IsBeginning task = ⊥
