use Rattle.std.proofs.Common.{ap, ◌∙◌}
use Rattle.board_model.specs.Pick.{pick}
use Rattle.job_scheduler.specs.contracts.scheduler.Scheduler.{the_view}
use Rattle.job_scheduler.proofs.Fibers.{may_start_is}
use Rattle.job_scheduler.proofs.scheduler.Scheduler.find.Goals as goal

pub returns-clause-value : goal.returns-clause-value
returns-clause-value c = rw (← c.self.view_is) (c.find.ensures.value ∙ ap (λ may. pick may (the_view c.self.inside).queues) (may_start_is (the_view c.self.inside).seats c.free.result c.free-2.result c.free.ensures c.free-2.ensures))
