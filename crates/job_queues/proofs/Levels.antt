-- The priority that the code has of a job is that of the board's law.
use Rattle.std.proofs.Common.{◌≡◌, refl, arith}
use Rattle.job_core.specs.declared.names.JobName.{JobName}
use Rattle.job_core.specs.declared.names.JobName.TheVariants.{Logic, Think, Path, Draw}
use Rattle.job_core.specs.declared.names.Priority.{Priority}
use Rattle.job_core.specs.declared.names.Priority.TheVariants.{High, Normal, Low}
use Rattle.job_core.specs.Priorities.{priority, rank}
use Rattle.board_model.specs.Board.{priority_of}
use Rattle.job_queues.specs.Names.{level}

pub level_of : (p : Priority) (job : JobName) → rank p ≡ priority job → level p ≡ priority_of job
level_of High (Logic f) e = refl
level_of High (Path f a i) e = refl
level_of Normal (Think f a) e = refl
level_of Low (Draw f b) e = refl
level_of _ _ e = absurd (omega (arith, e))
