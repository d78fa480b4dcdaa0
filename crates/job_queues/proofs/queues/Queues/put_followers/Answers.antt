use Rattle.std.proofs.Common.{ap}
use Rattle.job_queues.specs.Waiting.{with_fresh}
use Rattle.job_queues.specs.contracts.queues.Queues.{the_view}
use Rattle.job_queues.proofs.Ranges.{draws_put, draws_and_logic_put, nothing_after, one_after}
use Rattle.job_queues.proofs.queues.Queues.put_followers.Goals as goal

pub returns-then-frame-frames-clause-after : goal.returns-then-frame-frames-clause-after
returns-then-frame-frames-clause-after c =
    let v = the_view c.self.inside in
    rw (← c.self.view_is) (rw (c.put_draws.ensures.fresh, c.put_draws.ensures.ready, c.reserve.ensures.fresh, c.reserve.ensures.ready, nothing_after c.args.frame c.args.frames c.if-frame-frames.true)
    (ap (with_fresh v) (draws_put v.queues.fresh c.args.frame c.args.bands)))

pub returns-clause-after : goal.returns-clause-after
returns-clause-after c =
    let v = the_view c.self.inside in
    rw (← c.self.view_is) (rw (c.put_reserved.ensures.fresh, c.put_reserved.ensures.ready, c.reserve-2.ensures.fresh, c.reserve-2.ensures.ready, c.put_draws-2.ensures.fresh, c.put_draws-2.ensures.ready, c.reserve.ensures.fresh, c.reserve.ensures.ready, one_after c.args.frame c.args.frames c.if-frame-frames.false)
    (ap (with_fresh v) (draws_and_logic_put v.queues.fresh c.args.frame c.args.bands)))
