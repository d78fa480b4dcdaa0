use Rattle.std.proofs.Common.{None}
use Rattle.job_queues.proofs.Pools.{front_replicate}
use Rattle.job_scheduler.proofs.Fronts.{all_empty}
use Rattle.job_scheduler.proofs.job_table.JobTable.new.Goals as goal

pub invariant_of-result : goal.invariant_of-result
invariant_of-result c = (c.requires, all_empty c.args.fibers 128)

pub returns : goal.returns
returns c = front_replicate c.args.fibers 128 None c.requires
