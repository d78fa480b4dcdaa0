use Rattle.std.proofs.Common.{◌∙◌, refl}
use Rattle.job_core.specs.declared.names.JobName.TheVariants.{Think}
use Rattle.job_core.specs.Core.{Way}
use Rattle.job_scheduler.specs.contracts.scheduler.Scheduler.{the_view}
use Rattle.job_scheduler.proofs.Entries.{run_worker, run_fiber, run_held, fiber_inside, fiber_known}
use Rattle.job_scheduler.proofs.Rows.{awaited_undone}
use Rattle.job_scheduler.proofs.Writes.{asked}
use Rattle.job_scheduler.proofs.scheduler.Scheduler.ask.Goals as goal

pub fiber_of-fiber-requires : goal.fiber_of-fiber-requires
fiber_of-fiber-requires c = run_worker c.args.self.now.seats c.args.worker (Think c.args.frame c.args.agent) c.args.question c.requires.runs

pub hold_on-requires-clause-worker : goal.hold_on-requires-clause-worker
hold_on-requires-clause-worker c = rw (← c.self.view_is) at (run_worker c.args.self.now.seats c.args.worker (Think c.args.frame c.args.agent) c.args.question c.requires.runs)

pub hold_on-requires-clause-fiber : goal.hold_on-requires-clause-fiber
hold_on-requires-clause-fiber c = fiber_known c.self.view_is c.args.worker c.fiber_of-fiber.ensures (run_fiber c.args.self.now.seats c.args.worker (Think c.args.frame c.args.agent) c.args.question c.requires.runs)

pub returns-in_default-clause-unchanged : goal.returns-in_default-clause-unchanged
returns-in_default-clause-unchanged c =
    let key = rw (← c.self.view_is) at c.requires.key in
    rw (c.cancel.ensures, c.in_default.ensures.unchanged, c.in_ok-raise_awaited.ensures.ok, awaited_undone (Way c.args.frame c.args.agent c.args.question) 1 c.fiber_of-fiber.result c.self.inside.counters key, c.self.view_is) refl

pub returns-clause-ok : goal.returns-clause-ok
returns-clause-ok c = λ s.
    let table = rw (← c.self.view_is) at c.requires.table in
    let key = rw (← c.self.view_is) at c.requires.key in
    let fiber = fiber_inside c.self.view_is c.args.worker c.fiber_of-fiber.ensures in
    let held = rw (← c.self.view_is) at (run_held c.args.self.now.seats c.args.worker (Think c.args.frame c.args.agent) c.args.question c.requires.runs) in
    rw (← c.self.view_is) (c.hold_on.ensures ∙ rw (c.in-Ok.ensures.after, c.in_ok-raise_awaited.ensures.ok, fiber) (asked (the_view c.self.inside) table s c.args.worker c.args.frame c.args.agent c.args.question c.requires.runs.0 held c.requires.runs.3 key))
