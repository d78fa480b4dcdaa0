use Rattle.std.proofs.Common.{◌==◌}
use Rattle.job_queues.proofs.Founds.{there_at}
use Rattle.job_queues.proofs.queues.Queues.take_ready.Goals as goal

pub returns-clause-there : goal.returns-clause-there
returns-clause-there c = there_at (λ other. c.args.fiber == other) c.args.self.now.queues.ready c.in-Some.place c.in-Some.ensures
