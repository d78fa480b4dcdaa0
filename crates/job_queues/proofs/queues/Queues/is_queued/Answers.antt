use Rattle.std.proofs.Common.{sym}
use Rattle.job_core.specs.Core.{same}
use Rattle.job_queues.proofs.Founds.{there_at}
use Rattle.job_queues.proofs.queues.Queues.is_queued.Goals as goal

pub returns-in-Some : goal.returns-in-Some
returns-in-Some c = sym (there_at (same c.args.job) c.args.self.now.queues.fresh c.in-Some.field-0 c.in-Some.ensures)
