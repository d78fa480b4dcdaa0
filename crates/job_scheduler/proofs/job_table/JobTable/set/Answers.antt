use Rattle.std.proofs.Common.{◌<◌, length, take, length-take, arith}
use Rattle.job_queues.proofs.Pools.{front_write}
use Rattle.job_scheduler.proofs.Fronts.{still_empty}
use Rattle.job_scheduler.proofs.job_table.JobTable.set.Goals as goal

pub invariant_of-self : goal.invariant_of-self
invariant_of-self c =
    let l : c.args.fiber < length (take c.self.inside.fibers c.self.inside.all) = rw (← c.self.view_is) at c.requires in
    let below : c.args.fiber < c.self.inside.fibers = omega (arith, l, length-take c.self.inside.fibers c.self.inside.all) in
    (c.self.invariant.0, still_empty c.self.inside.fibers c.self.inside.all c.self.invariant.1 c.args.fiber c.args.held below)

pub returns : goal.returns
returns c =
    let l : c.args.fiber < length (take c.self.inside.fibers c.self.inside.all) = rw (← c.self.view_is) at c.requires in
    let below : c.args.fiber < c.self.inside.fibers = omega (arith, l, length-take c.self.inside.fibers c.self.inside.all) in
    rw (← c.self.view_is) (front_write c.self.inside.fibers c.self.inside.all c.args.fiber c.args.held below)
