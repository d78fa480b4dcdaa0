use Rattle.job_scheduler.proofs.Tests.{passes, fails}
use Rattle.task_board.proofs.board.TaskBoard.may_show.Goals as goal

pub returns-in-Some : goal.returns-in-Some
returns-in-Some c = passes _ (c.in-Some.field-0, c.in-Some.ensures.some)

pub returns-in-None : goal.returns-in-None
returns-in-None c = fails _ (λ p. c.to_emit.ensures.none c.in-None.is p.0 p.1)
