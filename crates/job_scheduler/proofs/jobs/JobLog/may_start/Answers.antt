use Rattle.std.proofs.Common.{sym, subst, ◌∙◌}
use Rattle.job_core.specs.Core.{same}
use Rattle.board_model.specs.Board.{Core}
use Rattle.job_queues.specs.Picks.{IsFirstAt}
use Rattle.job_queues.proofs.Founds.{there_at}
use Rattle.job_scheduler.proofs.Tests.{is_not}
use Rattle.job_scheduler.specs.contracts.jobs.JobLog.{the_view}
use Rattle.job_scheduler.proofs.Looked.{start_legal, start_queued, start_fiber}
use Rattle.job_scheduler.proofs.jobs.JobLog.may_start.Goals as goal

pub returns-then-not-is_free-clause-none : goal.returns-then-not-is_free-clause-none
returns-then-not-is_free-clause-none c = λ e q l m. is_not _ _ (c.is_free.ensures q l) c.if-not-is_free.true ((m.0, m.1.0), m.1.1)

pub returns-in_default-clause-none : goal.returns-in_default-clause-none
returns-in_default-clause-none c = rw (← c.self.view_is) (λ e q l m. let z = sym (start_queued (the_view c.self.inside) c.self.inside.scheduler _ _ c.self.invariant.0 q l c.args.worker c.args.job m) ∙ c.in_default.ensures in cc)

pub returns-then-not-has_fiber-clause-none : goal.returns-then-not-has_fiber-clause-none
returns-then-not-has_fiber-clause-none c = rw (← c.self.view_is) (λ e q l m. let z = sym (start_fiber (the_view c.self.inside) c.self.inside.scheduler _ _ c.self.invariant.0 q l c.args.worker c.args.job m) ∙ (sym c.has_fiber.ensures ∙ c.if-not-has_fiber.true) in cc)

pub returns-clause-some : goal.returns-clause-some
returns-clause-some c = rw (← c.self.view_is) (λ q l. start_legal (the_view c.self.inside) c.self.inside.scheduler _ _ c.self.invariant.0 q l c.args.worker c.args.job (((rw (← c.self.view_is) at c.is_free.ensures) q l).0 c.if-not-is_free.false)
    (there_at (same c.args.job) c.self.inside.scheduler.queues.fresh c.in-Some.place c.in-Some.ensures) (sym c.has_fiber.ensures ∙ c.if-not-has_fiber.false))

pub returns-clause-place : goal.returns-clause-place
returns-clause-place c = rw (← c.self.view_is) (λ q. subst (λ (x : Core). IsFirstAt (same c.args.job) x.queues.fresh c.in-Some.place) (c.self.invariant.0.core q) c.in-Some.ensures)
