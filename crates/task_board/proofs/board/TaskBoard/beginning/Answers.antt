use Rattle.std.proofs.Common.{◌≡◌, Ok, Err, sym, ap, ◌∙◌, arith}
use Rattle.std.proofs.lemmas.Result.{err_from_is_err_and}
use Rattle.board_model.specs.Board.{Held}
use Rattle.job_core.specs.declared.names.JobName.TheVariants.{Logic}
use Rattle.job_core.specs.Core.{Runs}
use Rattle.job_scheduler.specs.Looks.{IsRunning}
use Rattle.task_board.specs.Boards.{state_in}
use Rattle.task_board.proofs.BoardEvents.{known, not_running, not_a_logic, not_at_start, seen_as}
use Rattle.task_board.specs.Boards.{NoOther}
use Rattle.task_board.proofs.board.TaskBoard.beginning.Goals as goal

pub returns-in_err-held-clause-refused : goal.returns-in_err-held-clause-refused
returns-in_err-held-clause-refused c =
    let p = err_from_is_err_and c.from_residual.result c.from_residual.ensures.1 in
    rw (p.1, p.2, ← c.self.view_is) (λ event needs. not_running (seen_as c.self.inside.session.now c.self.inside.jobs) c.args.worker NoOther event c.in_err-held.field-0.0 (known c.self.inside.session.now c.self.inside.jobs c.self.inside.frame_store c.self.invariant (IsRunning c.args.worker (Err c.in_err-held.field-0.0)) c.in_err-held.ensures))

pub returns-in_default : goal.returns-in_default
returns-in_default c = record {
  ok = tt;
  refused = rw (← c.self.view_is) (λ event needs.
      let run = known c.self.inside.session.now c.self.inside.jobs c.self.inside.frame_store c.self.invariant (IsRunning c.args.worker (Ok c.in_ok-held.held)) c.in_ok-held.ensures in
      let job : c.held.inside.job ≡ c.in_ok-held.held.job = ap (λ (h : Held). h.job) c.held.view_is in
      not_a_logic (seen_as c.self.inside.session.now c.self.inside.jobs) c.args.worker event c.in_ok-held.held.job c.in_ok-held.held.step run.0 run.1 needs (λ f e. c.in_default.not-Logic f (job ∙ e)));
}

pub returns-then-held-ne0-clause-refused : goal.returns-then-held-ne0-clause-refused
returns-then-held-ne0-clause-refused c = rw (← c.self.view_is) (λ event needs.
    let run = known c.self.inside.session.now c.self.inside.jobs c.self.inside.frame_store c.self.invariant (IsRunning c.args.worker (Ok c.in_ok-held.held)) c.in_ok-held.ensures in
    let step : c.held.inside.step ≡ c.in_ok-held.held.step = ap (λ (h : Held). h.step) c.held.view_is in
    not_at_start (seen_as c.self.inside.session.now c.self.inside.jobs) c.args.worker event c.in_ok-held.held.job c.in_ok-held.held.step run.0 run.1 needs (λ z. c.if-held-ne0.true (step ∙ z)))

pub returns-clause-ok : goal.returns-clause-ok
returns-clause-ok c =
    let run = known c.self.inside.session.now c.self.inside.jobs c.self.inside.frame_store c.self.invariant (IsRunning c.args.worker (Ok c.in_ok-held.held)) c.in_ok-held.ensures in
    let job : c.in_ok-held.held.job ≡ Logic c.in-Logic.frame = sym (ap (λ (h : Held). h.job) c.held.view_is) ∙ c.in-Logic.is in
    let same : c.held.inside.step ≡ c.in_ok-held.held.step = ap (λ (h : Held). h.step) c.held.view_is in
    let step : c.in_ok-held.held.step ≡ 0 = omega arith in
    rw (← c.self.view_is) (record { on = run.0; runs = ap (state_in (seen_as c.self.inside.session.now c.self.inside.jobs)).phase (sym job) ∙ (run.1 ∙ ap (Runs c.args.worker) step) })
