use Rattle.std.proofs.Common.{Ok, Err}
use Rattle.job_scheduler.specs.Looks.{IsToShow}
use Rattle.task_board.proofs.BoardEvents.{known, nothing_shown, seen_as}
use Rattle.task_board.proofs.board.TaskBoard.to_emit.Goals as goal

pub returns-in-Ok-clause-some : goal.returns-in-Ok-clause-some
returns-in-Ok-clause-some c = rw (← c.self.view_is) (known c.self.inside.session.now c.self.inside.jobs c.self.inside.frame_store c.self.invariant (IsToShow (Ok c.in-Ok.frame)) c.in-Ok.ensures)

pub returns-in-Err-clause-none : goal.returns-in-Err-clause-none
returns-in-Err-clause-none c = rw (← c.self.view_is) (λ e. nothing_shown (seen_as c.self.inside.session.now c.self.inside.jobs) c.in-Err.field-0 (known c.self.inside.session.now c.self.inside.jobs c.self.inside.frame_store c.self.invariant (IsToShow (Err c.in-Err.field-0)) c.in-Err.ensures))
