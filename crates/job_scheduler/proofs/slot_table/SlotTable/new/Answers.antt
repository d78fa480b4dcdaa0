use Rattle.std.proofs.Common.{None}
use Rattle.job_queues.proofs.Pools.{front_replicate}
use Rattle.job_scheduler.proofs.slot_table.SlotTable.new.Goals as goal

pub returns : goal.returns
returns c = front_replicate c.args.slots 16 None c.requires
