use Rattle.std.proofs.Common.{◌<◌, length, take, length-take, arith}
use Rattle.job_queues.proofs.Pools.{front_write}
use Rattle.job_scheduler.proofs.Fronts.{still_empty}
use Rattle.job_scheduler.proofs.worker_table.WorkerTable.set.Goals as goal

pub invariant_of-self : goal.invariant_of-self
invariant_of-self c =
    let l : c.args.worker < length (take c.self.inside.workers c.self.inside.all) = rw (← c.self.view_is) at c.requires in
    let below : c.args.worker < c.self.inside.workers = omega (arith, l, length-take c.self.inside.workers c.self.inside.all) in
    (c.self.invariant.0, still_empty c.self.inside.workers c.self.inside.all c.self.invariant.1 c.args.worker c.args.fiber below)

pub returns : goal.returns
returns c =
    let l : c.args.worker < length (take c.self.inside.workers c.self.inside.all) = rw (← c.self.view_is) at c.requires in
    let below : c.args.worker < c.self.inside.workers = omega (arith, l, length-take c.self.inside.workers c.self.inside.all) in
    rw (← c.self.view_is) (front_write c.self.inside.workers c.self.inside.all c.args.worker c.args.fiber below)
