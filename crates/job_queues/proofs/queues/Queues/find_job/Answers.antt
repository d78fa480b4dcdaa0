use Rattle.job_core.specs.Core.{same}
use Rattle.job_queues.specs.contracts.queues.Queues.{the_view}
use Rattle.job_queues.proofs.Threes.{absent_all}
use Rattle.job_queues.proofs.queues.Queues.find_job.Goals as goal

pub returns-in_default-find_job-2 : goal.returns-in_default-find_job-2
returns-in_default-find_job-2 c = rw (← c.self.view_is) (absent_all (same c.args.job) (the_view c.self.inside).queues.fresh c.in_default.ensures.absent c.in_default-find_job.ensures.absent c.in_default-find_job-2.ensures.absent)
