use Rattle.std.proofs.Common.{◌≡◌, Ok, Err, sym, ap, ◌∙◌, inl, subst}
use Rattle.std.proofs.lemmas.Result.{err_from_is_err_and}
use Rattle.job_scheduler.proofs.Tests.{is_not}
use Rattle.job_core.specs.declared.names.Event.TheVariants.{Finish}
use Rattle.job_core.specs.Core.{Runs, IsLegal}
use Rattle.board_model.specs.Board.{Held}
use Rattle.job_scheduler.specs.Looks.{IsRunning}
use Rattle.job_scheduler.specs.declared.board_fault.BoardFault.TheVariants.{WrongResult, Illegal, OutOfMemory}
use Rattle.task_board.specs.Boards.{Played, IsRefused, setup_in, state_in}
use Rattle.task_board.specs.Dones.{game_done, IsOtherDone}
use Rattle.task_board.proofs.BoardEvents.{known, not_running, other_result, finish_legal, finish_full, finish_refused, seen_as}
use Rattle.task_board.proofs.board.TaskBoard.may_end.Goals as goal

pub returns-in_err-held-clause-refused : goal.returns-in_err-held-clause-refused
returns-in_err-held-clause-refused c =
    let p = err_from_is_err_and c.from_residual.result c.from_residual.ensures.1 in
    rw (p.1, p.2) (subst (λ b. IsRefused b c.args.worker (IsOtherDone c.args.done.now b.game) (Finish c.args.worker) c.in_err-held.field-0.0) c.self.view_is (not_running (seen_as c.self.inside.session.now c.self.inside.jobs) c.args.worker (IsOtherDone c.args.done.now c.self.inside.session.now) (Finish c.args.worker) c.in_err-held.field-0.0 (known c.self.inside.session.now c.self.inside.jobs c.self.inside.frame_store c.self.invariant (IsRunning c.args.worker (Err c.in_err-held.field-0.0)) c.in_err-held.ensures)))

pub returns-then-not-is_of-clause-refused : goal.returns-then-not-is_of-clause-refused
returns-then-not-is_of-clause-refused c =
    let run = known c.self.inside.session.now c.self.inside.jobs c.self.inside.frame_store c.self.invariant (IsRunning c.args.worker (Ok c.in_ok-held.held)) c.in_ok-held.ensures in
    let runs = subst (λ (h : Held). (state_in (seen_as c.self.inside.session.now c.self.inside.jobs)).phase h.job ≡ Runs c.args.worker h.step) (sym c.held.view_is) run.1 in
    subst (λ b. IsRefused b c.args.worker (IsOtherDone c.args.done.now b.game) (Finish c.args.worker) WrongResult) c.self.view_is
    (other_result (seen_as c.self.inside.session.now c.self.inside.jobs) c.self.invariant.lawful c.args.worker run.0 c.held.inside.job c.held.inside.step runs (IsOtherDone c.args.done.now c.self.inside.session.now) (Finish c.args.worker) (inl (is_not _ _ c.is_of.ensures c.if-not-is_of.true)))

pub returns-then-not-is_at-clause-refused : goal.returns-then-not-is_at-clause-refused
returns-then-not-is_at-clause-refused c =
    let run = known c.self.inside.session.now c.self.inside.jobs c.self.inside.frame_store c.self.invariant (IsRunning c.args.worker (Ok c.in_ok-held.held)) c.in_ok-held.ensures in
    let runs = subst (λ (h : Held). (state_in (seen_as c.self.inside.session.now c.self.inside.jobs)).phase h.job ≡ Runs c.args.worker h.step) (sym c.held.view_is) run.1 in
    let job = c.is_of.ensures.0 c.if-not-is_of.false in
    let game : game_done c.args.done.now ≡ c.self.inside.session.now = c.requires ∙ sym (ap (λ (b : Played). b.game) c.self.view_is) in
    subst (λ b. IsRefused b c.args.worker (IsOtherDone c.args.done.now b.game) (Finish c.args.worker) Illegal) c.self.view_is
    (finish_refused (seen_as c.self.inside.session.now c.self.inside.jobs) c.self.invariant.lawful c.args.worker run.0 c.held.inside.job c.held.inside.step runs c.args.done.now job game (is_not _ _ c.is_at.ensures c.if-not-is_at.true))

pub returns : goal.returns
returns c =
    let board = seen_as c.self.inside.session.now c.self.inside.jobs in
    let run = known c.self.inside.session.now c.self.inside.jobs c.self.inside.frame_store c.self.invariant (IsRunning c.args.worker (Ok c.in_ok-held.held)) c.in_ok-held.ensures in
    let runs = subst (λ (h : Held). (state_in board).phase h.job ≡ Runs c.args.worker h.step) (sym c.held.view_is) run.1 in
    let job = c.is_of.ensures.0 c.if-not-is_of.false in
    let game : game_done c.args.done.now ≡ c.self.inside.session.now = c.requires ∙ sym (ap (λ (b : Played). b.game) c.self.view_is) in
    let over = c.is_at.ensures.0 c.if-not-is_at.false in
    record {
      legal = rw (← c.self.view_is) (subst (λ x. IsLegal (setup_in board) (state_in board) (Finish c.args.worker x)) (sym job)
          (finish_legal board c.self.invariant.lawful c.args.worker run.0 c.held.inside.job c.held.inside.step runs c.args.done.now job game over));
      full = subst (λ b. IsRefused b c.args.worker (IsOtherDone c.args.done.now b.game) (Finish c.args.worker) OutOfMemory) c.self.view_is
          (finish_full board c.self.invariant.lawful c.args.worker run.0 c.held.inside.job c.held.inside.step runs c.args.done.now job game over);
      refused = tt;
    }
