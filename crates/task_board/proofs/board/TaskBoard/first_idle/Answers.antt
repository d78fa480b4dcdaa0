use Rattle.std.proofs.Common.{◌≡◌, refl, ap, ◌∙◌, arith}
use Rattle.job_scheduler.proofs.Tests.{is_not}
use Rattle.job_scheduler.specs.Numbers.{Numbers}
use Rattle.task_board.proofs.IdleWorkers.{busy_more}
use Rattle.task_board.proofs.board.TaskBoard.first_idle.Goals as goal

pub returns-then-is_idle-clause-idle : goal.returns-then-is_idle-clause-idle
returns-then-is_idle-clause-idle c = c.if-is_idle.ensures.0 refl

pub workers-preserved : goal.workers-preserved
workers-preserved c = busy_more c.args.self.now c.workers.worker c.workers.invariant (is_not _ _ c.if-is_idle.ensures refl)

pub returns-clause-none : goal.returns-clause-none
returns-clause-none c = λ e w l.
    let count : c.workers-worker-end.result ≡ c.args.self.now.numbers.workers = c.workers-worker-end.ensures.value ∙ ap (λ (n : Numbers). n.workers) c.settings.ensures in
    let over = c.workers-test.false in
    c.workers.invariant w (omega (arith, l, over, count))
