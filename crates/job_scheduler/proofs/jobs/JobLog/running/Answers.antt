use Rattle.std.proofs.Common.{true, false, sym, ◌∙◌, arith}
use Rattle.job_scheduler.specs.contracts.jobs.JobLog.{the_view}
use Rattle.job_scheduler.proofs.Looked.{stop_is, phase_where, worker_where, idle_where}
use Rattle.job_scheduler.proofs.jobs.JobLog.running.Goals as goal

pub returns-then-is_stopped : goal.returns-then-is_stopped
returns-then-is_stopped c = rw (← c.self.view_is) (λ q l. stop_is (the_view c.self.inside) c.self.inside.scheduler _ _ c.self.invariant.0 q l true (sym c.if-is_stopped.true ∙ c.is_stopped.ensures))

pub returns-then-worker-workers : goal.returns-then-worker-workers
returns-then-worker-workers c = rw (← c.self.view_is) (λ q l. (stop_is (the_view c.self.inside) c.self.inside.scheduler _ _ c.self.invariant.0 q l false (sym c.if-is_stopped.false ∙ c.is_stopped.ensures), omega (arith, c.if-worker-workers.true, c.workers.ensures.value)))

pub returns-in_default : goal.returns-in_default
returns-in_default c = rw (← c.self.view_is) (λ q l. ((stop_is (the_view c.self.inside) c.self.inside.scheduler _ _ c.self.invariant.0 q l false (sym c.if-is_stopped.false ∙ c.is_stopped.ensures), omega (arith, c.if-worker-workers.false, c.workers.ensures.value)), idle_where (the_view c.self.inside) c.self.inside.scheduler _ _ c.self.invariant.0 q l c.args.worker c.in_default.ensures))

pub returns : goal.returns
returns c = rw (← c.self.view_is) (λ q l. ((stop_is (the_view c.self.inside) c.self.inside.scheduler _ _ c.self.invariant.0 q l false (sym c.if-is_stopped.false ∙ c.is_stopped.ensures), omega (arith, c.if-worker-workers.false, c.workers.ensures.value)), phase_where (the_view c.self.inside) c.self.inside.scheduler _ _ c.self.invariant.0 q l c.args.worker c.in-Some.held c.in-Some.ensures, worker_where (the_view c.self.inside) c.self.inside.scheduler _ _ c.self.invariant.0 q l c.args.worker c.in-Some.held c.in-Some.ensures))
