use Rattle.std.proofs.Common.{Ok, Err}
use Rattle.job_scheduler.proofs.Tests.{passes, fails}
use Rattle.job_scheduler.specs.Looks.{IsRunning}
use Rattle.task_board.proofs.BoardEvents.{known, seen_as}
use Rattle.task_board.proofs.IdleWorkers.{is_idle}
use Rattle.task_board.proofs.board.TaskBoard.is_idle.Goals as goal

pub returns-in-Ok : goal.returns-in-Ok
returns-in-Ok c = rw (← c.self.view_is) (fails _ (λ idle.
    let run = known c.self.inside.session.now c.self.inside.jobs c.self.inside.frame_store c.self.invariant (IsRunning c.args.worker (Ok c.in-Ok.field-0)) c.in-Ok.ensures in
    idle c.in-Ok.field-0.job c.in-Ok.field-0.step run.1))

pub returns-in-Err : goal.returns-in-Err
returns-in-Err c =
    let on = rw (← c.self.view_is) at c.requires.on in
    let below = rw (← c.self.view_is) at c.requires.worker in
    rw (← c.self.view_is) (passes _ (is_idle (seen_as c.self.inside.session.now c.self.inside.jobs) c.args.worker c.in-Err.field-0 on below (known c.self.inside.session.now c.self.inside.jobs c.self.inside.frame_store c.self.invariant (IsRunning c.args.worker (Err c.in-Err.field-0)) c.in-Err.ensures)))
