use Rattle.std.proofs.Common.{◌==◌, sym}
use Rattle.job_queues.proofs.Founds.{there_at}
use Rattle.job_queues.proofs.queues.Queues.is_ready.Goals as goal

pub returns-in-Some : goal.returns-in-Some
returns-in-Some c = sym (there_at (λ other. c.args.fiber == other) c.args.self.now.queues.ready c.in-Some.field-0 c.in-Some.ensures)
