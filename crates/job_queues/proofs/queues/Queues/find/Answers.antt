use Rattle.std.proofs.Common.{◌∙◌}
use Rattle.job_queues.proofs.Picks.{pick_high, pick_normal, pick_low}
use Rattle.job_queues.proofs.Founds.{none_above, at_normal, at_low}
use Rattle.job_queues.specs.Names.{picked}
use Rattle.job_queues.specs.Lanes.{may_start, free_fibers}
use Rattle.job_queues.specs.contracts.queues.Queues.{the_view}
use Rattle.job_queues.proofs.queues.Queues.find.Goals as goal

pub returns-in-Some-clause-value : goal.returns-in-Some-clause-value
returns-in-Some-clause-value c = rw (← c.self.view_is) (pick_high (may_start (free_fibers c.args.small_free c.args.large_free)) (the_view c.self.inside).queues (picked c.in-Some.pick) c.in-Some.ensures.value)

pub returns-in-Some-find-clause-value : goal.returns-in-Some-find-clause-value
returns-in-Some-find-clause-value c =
    rw (← c.self.view_is) (pick_normal (may_start (free_fibers c.args.small_free c.args.large_free)) (the_view c.self.inside).queues (picked c.in-Some-find.pick) c.in_default.ensures.value c.in-Some-find.ensures.value)

pub returns-in-Some-find-clause-place : goal.returns-in-Some-find-clause-place
returns-in-Some-find-clause-place c =
    let may = may_start (free_fibers c.args.small_free c.args.large_free) in
    rw (← c.self.view_is) (at_normal (the_view c.self.inside).queues c.in-Some-find.index c.in-Some-find.pick
    (none_above may c.in-Some-find.pick (the_view c.self.inside).queues.ready.high (the_view c.self.inside).queues.ready.normal (the_view c.self.inside).queues.fresh.high (the_view c.self.inside).queues.fresh.normal c.in_default.ensures.value c.in-Some-find.ensures.value) c.in-Some-find.ensures.place)

pub returns-clause-value : goal.returns-clause-value
returns-clause-value c =
    rw (← c.self.view_is) (c.in-Some-find-2.ensures.value ∙ pick_low (may_start (free_fibers c.args.small_free c.args.large_free)) (the_view c.self.inside).queues c.in_default.ensures.value c.in_default-find.ensures.value)

pub returns-clause-place : goal.returns-clause-place
returns-clause-place c =
    let may = may_start (free_fibers c.args.small_free c.args.large_free) in
    rw (← c.self.view_is) (at_low (the_view c.self.inside).queues c.in-Some-find-2.index c.in-Some-find-2.pick
    (none_above may c.in-Some-find-2.pick (the_view c.self.inside).queues.ready.high (the_view c.self.inside).queues.ready.low (the_view c.self.inside).queues.fresh.high (the_view c.self.inside).queues.fresh.low c.in_default.ensures.value c.in-Some-find-2.ensures.value)
    (none_above may c.in-Some-find-2.pick (the_view c.self.inside).queues.ready.normal (the_view c.self.inside).queues.ready.low (the_view c.self.inside).queues.fresh.normal (the_view c.self.inside).queues.fresh.low c.in_default-find.ensures.value c.in-Some-find-2.ensures.value) c.in-Some-find-2.ensures.place)
