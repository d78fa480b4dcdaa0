-- A task is of the job for which it was made.
use Rattle.std.proofs.Common.{◌≡◌, ℕ, ap}
use Rattle.game_rules.specs.Game.{Game}
use Rattle.job_core.specs.declared.names.JobName.{JobName}
use Rattle.job_core.specs.declared.names.JobName.TheVariants.{Logic, Think, Path, Draw}
use Rattle.frame_params.specs.Tasks.{job_of, IsTaskAt}
use Rattle.frame_params.specs.declared.task.Task.{Task}
use Rattle.frame_params.specs.declared.task.Task.TheVariants.{Logic as LogicTask, Think as ThinkTask, Path as PathTask, Draw as DrawTask}

pub job_is : (g : Game) (j : JobName) (step : ℕ) (task : Task) → IsTaskAt g j step task → job_of task ≡ j
job_is g (Logic f) step (LogicTask l) e = ap (λ x. Logic x.frame) e
job_is g (Logic f) step (ThinkTask t) e = absurd e
job_is g (Logic f) step (PathTask q) e = absurd e
job_is g (Logic f) step (DrawTask d) e = absurd e
job_is g (Think f a) step (LogicTask l) e = absurd e
job_is g (Think f a) step (ThinkTask t) e = ap (λ x. Think x.frame x.agent) e
job_is g (Think f a) step (PathTask q) e = absurd e
job_is g (Think f a) step (DrawTask d) e = absurd e
job_is g (Path f a i) step (LogicTask l) e = absurd e
job_is g (Path f a i) step (ThinkTask t) e = absurd e
job_is g (Path f a i) step (PathTask q) e = ap (λ x. Path x.frame x.agent x.question) e
job_is g (Path f a i) step (DrawTask d) e = absurd e
job_is g (Draw f b) step (LogicTask l) e = absurd e
job_is g (Draw f b) step (ThinkTask t) e = absurd e
job_is g (Draw f b) step (PathTask q) e = absurd e
job_is g (Draw f b) step (DrawTask d) e = ap (λ x. Draw x.frame x.number) e
