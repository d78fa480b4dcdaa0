use Rattle.std.proofs.Common.{Ok, Err, ap, ◌∙◌, inr, sym, subst}
use Rattle.job_core.specs.declared.names.Event.TheVariants.{Finish}
use Rattle.job_scheduler.specs.Looks.{IsRunning}
use Rattle.job_scheduler.specs.declared.board_fault.BoardFault.TheVariants.{WrongResult}
use Rattle.task_board.specs.Boards.{Played, IsRefused}
use Rattle.task_board.specs.Dones.{IsOtherDone}
use Rattle.task_board.proofs.BoardEvents.{known, not_running, other_result, seen_as}
use Rattle.task_board.proofs.board.TaskBoard.finish.Goals as goal

pub returns-in-Err-clause-refused : goal.returns-in-Err-clause-refused
returns-in-Err-clause-refused c = subst (λ b. IsRefused b c.args.worker (IsOtherDone c.args.done b.game) (Finish c.args.worker) c.in-Err.fault) c.self.view_is (not_running (seen_as c.self.inside.session.now c.self.inside.jobs) c.args.worker (IsOtherDone c.args.done c.self.inside.session.now) (Finish c.args.worker) c.in-Err.fault (known c.self.inside.session.now c.self.inside.jobs c.self.inside.frame_store c.self.invariant (IsRunning c.args.worker (Err c.in-Err.fault)) c.in-Err.ensures))

pub returns-then-not-is_same-clause-refused : goal.returns-then-not-is_same-clause-refused
returns-then-not-is_same-clause-refused c =
    let run = known c.self.inside.session.now c.self.inside.jobs c.self.inside.frame_store c.self.invariant (IsRunning c.args.worker (Ok c.in-Ok.field-0)) c.in-Ok.ensures in
    subst (λ b. IsRefused b c.args.worker (IsOtherDone c.args.done b.game) (Finish c.args.worker) WrongResult) c.self.view_is
    (other_result (seen_as c.self.inside.session.now c.self.inside.jobs) c.self.invariant.lawful c.args.worker run.0 c.in-Ok.field-0.job c.in-Ok.field-0.step run.1 (IsOtherDone c.args.done c.self.inside.session.now) (Finish c.args.worker) (inr (λ e. c.is_same.ensures.differs c.if-not-is_same.true (c.session.ensures ∙ e))))

pub finish_own-requires : goal.finish_own-requires
finish_own-requires c = sym c.session.ensures ∙ (c.is_same.ensures.same c.if-not-is_same.false ∙ ap (λ (b : Played). b.game) c.self.view_is)
