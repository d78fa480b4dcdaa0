use Rattle.std.proofs.Common.{◌==◌}
use Rattle.job_queues.specs.contracts.queues.Queues.{the_view}
use Rattle.job_queues.proofs.Threes.{absent_all}
use Rattle.job_queues.proofs.queues.Queues.find_ready.Goals as goal

pub returns-in_default-find_ready-2 : goal.returns-in_default-find_ready-2
returns-in_default-find_ready-2 c = rw (← c.self.view_is) (absent_all (λ other. c.args.fiber == other) (the_view c.self.inside).queues.ready c.in_default.ensures.absent c.in_default-find_ready.ensures.absent c.in_default-find_ready-2.ensures.absent)
