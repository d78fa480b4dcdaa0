use Rattle.std.proofs.Common.{◌≡◌, Ok, Err, sym, ap, ◌∙◌}
use Rattle.board_model.specs.Board.{Held}
use Rattle.job_scheduler.specs.Looks.{IsRunning}
use Rattle.task_board.specs.Boards.{state_in}
use Rattle.task_board.proofs.BoardEvents.{known, not_run, runs_one, same_is, same_not, seen_as}
use Rattle.task_board.proofs.board.TaskBoard.is_run_by.Goals as goal

pub returns-in-Err-clause-other : goal.returns-in-Err-clause-other
returns-in-Err-clause-other c = rw (← c.self.view_is) (λ e on. not_run (seen_as c.self.inside.session.now c.self.inside.jobs) c.self.invariant.lawful c.args.worker c.in-Err.field-0 (known c.self.inside.session.now c.self.inside.jobs c.self.inside.frame_store c.self.invariant (IsRunning c.args.worker (Err c.in-Err.field-0)) c.in-Err.ensures) on c.args.job)

pub returns-then-is_same-clause-runs : goal.returns-then-is_same-clause-runs
returns-then-is_same-clause-runs c = rw (← c.self.view_is) (λ e.
    let run = known c.self.inside.session.now c.self.inside.jobs c.self.inside.frame_store c.self.invariant (IsRunning c.args.worker (Ok c.in-Ok.held)) c.in-Ok.ensures in
    let job : c.held.inside.job ≡ c.in-Ok.held.job = ap (λ (h : Held). h.job) c.held.view_is in
    (c.in-Ok.held.step, ap (state_in (seen_as c.self.inside.session.now c.self.inside.jobs)).phase (same_is c.args.job c.held.inside.job (sym c.is_same.ensures ∙ c.if-is_same.true) ∙ job) ∙ run.1))

pub returns-clause-other : goal.returns-clause-other
returns-clause-other c = rw (← c.self.view_is) (λ e on step runs.
    let run = known c.self.inside.session.now c.self.inside.jobs c.self.inside.frame_store c.self.invariant (IsRunning c.args.worker (Ok c.in-Ok.held)) c.in-Ok.ensures in
    let job : c.held.inside.job ≡ c.in-Ok.held.job = ap (λ (h : Held). h.job) c.held.view_is in
    same_not c.args.job c.held.inside.job (sym c.is_same.ensures ∙ c.if-is_same.false) (runs_one (seen_as c.self.inside.session.now c.self.inside.jobs) c.self.invariant.lawful c.args.worker step c.in-Ok.held.step c.args.job c.in-Ok.held.job runs run.1 ∙ sym job))
