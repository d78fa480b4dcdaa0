use Rattle.job_core.specs.Core.{same}
use Rattle.job_queues.proofs.Founds.{there_at}
use Rattle.job_queues.proofs.queues.Queues.take_out.Goals as goal

pub returns-clause-there : goal.returns-clause-there
returns-clause-there c = there_at (same c.args.job) c.args.self.now.queues.fresh c.in-Some.place c.in-Some.ensures
