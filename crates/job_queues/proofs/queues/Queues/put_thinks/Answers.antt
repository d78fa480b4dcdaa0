use Rattle.std.proofs.Common.{ap}
use Rattle.job_queues.specs.Waiting.{with_fresh}
use Rattle.job_queues.specs.contracts.queues.Queues.{the_view}
use Rattle.job_queues.proofs.Ranges.{thinks_put}
use Rattle.job_queues.proofs.queues.Queues.put_thinks.Goals as goal

pub returns-clause-after : goal.returns-clause-after
returns-clause-after c =
    let v = the_view c.self.inside in
    rw (← c.self.view_is) (rw (c.put_thinks.ensures.ready, c.put_thinks.ensures.fresh, c.reserve.ensures.fresh, c.reserve.ensures.ready) (ap (with_fresh v) (thinks_put v.queues.fresh c.args.frame c.args.agents)))
