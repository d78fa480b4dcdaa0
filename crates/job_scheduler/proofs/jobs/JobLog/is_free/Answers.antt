use Rattle.std.proofs.Common.{true, false, sym, ◌∙◌, arith}
use Rattle.job_scheduler.proofs.Tests.{passes, fails}
use Rattle.job_scheduler.specs.contracts.jobs.JobLog.{the_view}
use Rattle.job_scheduler.proofs.Looked.{stop_is, idle_none, busy_some}
use Rattle.job_scheduler.proofs.jobs.JobLog.is_free.Goals as goal

pub returns-then-is_stopped : goal.returns-then-is_stopped
returns-then-is_stopped c = rw (← c.self.view_is) (λ q l. fails _ (λ p. let z = sym p.0.0 ∙ stop_is (the_view c.self.inside) c.self.inside.scheduler _ _ c.self.invariant.0 q l true (sym c.if-is_stopped.true ∙ c.is_stopped.ensures) in cc))

pub returns-then-worker-workers : goal.returns-then-worker-workers
returns-then-worker-workers c = rw (← c.self.view_is) (λ q l. fails _ (λ p. absurd (omega (arith, c.if-worker-workers.true, c.workers.ensures.value, p.0.1))))

pub returns-then-is_some : goal.returns-then-is_some
returns-then-is_some c = rw (← c.self.view_is) (λ q l. fails _ (λ p. busy_some (the_view c.self.inside) c.self.inside.scheduler _ _ c.self.invariant.0 q l c.args.worker c.runs.result c.runs.ensures (sym c.is_some.ensures ∙ c.if-is_some.true) p.1))

pub returns : goal.returns
returns c = rw (← c.self.view_is) (λ q l. passes _ ((stop_is (the_view c.self.inside) c.self.inside.scheduler _ _ c.self.invariant.0 q l false (sym c.if-is_stopped.false ∙ c.is_stopped.ensures), omega (arith, c.if-worker-workers.false, c.workers.ensures.value)), idle_none (the_view c.self.inside) c.self.inside.scheduler _ _ c.self.invariant.0 q l c.args.worker c.runs.result c.runs.ensures (sym c.is_some.ensures ∙ c.if-is_some.false)))
