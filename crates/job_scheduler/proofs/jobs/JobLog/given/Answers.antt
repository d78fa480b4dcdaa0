use Rattle.std.proofs.Common.{true, false, Some, sym, ap, subst, ◌∙◌, arith}
use Rattle.job_queues.specs.Picks.{IsAt}
use Rattle.job_queues.specs.Names.{picked}
use Rattle.job_scheduler.specs.contracts.jobs.JobLog.{the_view}
use Rattle.job_scheduler.proofs.Looked.{stop_is, busy_where, idle_where, none_given, start_given, no_fiber, resume_given, resume_step, resume_place}
use Rattle.job_scheduler.proofs.jobs.JobLog.given.Goals as goal

pub returns-then-is_stopped-clause-given : goal.returns-then-is_stopped-clause-given
returns-then-is_stopped-clause-given c = rw (← c.self.view_is) (λ q l. stop_is (the_view c.self.inside) c.self.inside.scheduler _ _ c.self.invariant.0 q l true (sym c.if-is_stopped.true ∙ c.is_stopped.ensures))

pub returns-then-worker-workers-clause-given : goal.returns-then-worker-workers-clause-given
returns-then-worker-workers-clause-given c = rw (← c.self.view_is) (λ q l. (stop_is (the_view c.self.inside) c.self.inside.scheduler _ _ c.self.invariant.0 q l false (sym c.if-is_stopped.false ∙ c.is_stopped.ensures), omega (arith, c.if-worker-workers.true, c.workers.ensures.value)))

pub returns-in-Some-clause-given : goal.returns-in-Some-clause-given
returns-in-Some-clause-given c = rw (← c.self.view_is) (λ q l. ((stop_is (the_view c.self.inside) c.self.inside.scheduler _ _ c.self.invariant.0 q l false (sym c.if-is_stopped.false ∙ c.is_stopped.ensures), omega (arith, c.if-worker-workers.false, c.workers.ensures.value)), busy_where (the_view c.self.inside) c.self.inside.scheduler _ _ c.self.invariant.0 q l c.args.worker c.in-Some.field-0 c.in-Some.ensures))

pub returns-in_default-clause-given : goal.returns-in_default-clause-given
returns-in_default-clause-given c = rw (← c.self.view_is) (λ q l. ((stop_is (the_view c.self.inside) c.self.inside.scheduler _ _ c.self.invariant.0 q l false (sym c.if-is_stopped.false ∙ c.is_stopped.ensures), omega (arith, c.if-worker-workers.false, c.workers.ensures.value)), idle_where (the_view c.self.inside) c.self.inside.scheduler _ _ c.self.invariant.0 q l c.args.worker c.in-None.ensures, none_given (the_view c.self.inside) c.self.inside.scheduler _ _ c.self.invariant.0 q l c.args.worker (stop_is (the_view c.self.inside) c.self.inside.scheduler _ _ c.self.invariant.0 q l false (sym c.if-is_stopped.false ∙ c.is_stopped.ensures), omega (arith, c.if-worker-workers.false, c.workers.ensures.value)) (idle_where (the_view c.self.inside) c.self.inside.scheduler _ _ c.self.invariant.0 q l c.args.worker c.in-None.ensures) c.in_default.ensures.value))

pub returns-in-New-clause-given : goal.returns-in-New-clause-given
returns-in-New-clause-given c = rw (← c.self.view_is) (λ q l. start_given (the_view c.self.inside) c.self.inside.scheduler _ _ c.self.invariant.0 q l c.args.worker (stop_is (the_view c.self.inside) c.self.inside.scheduler _ _ c.self.invariant.0 q l false (sym c.if-is_stopped.false ∙ c.is_stopped.ensures), omega (arith, c.if-worker-workers.false, c.workers.ensures.value)) (idle_where (the_view c.self.inside) c.self.inside.scheduler _ _ c.self.invariant.0 q l c.args.worker c.in-None.ensures) c.in-New.job (ap (λ p. Some (picked p)) (sym c.in-New.is) ∙ c.in-Some-find.ensures.value))

pub returns-in_default-held_by-clause-given : goal.returns-in_default-held_by-clause-given
returns-in_default-held_by-clause-given c = rw (← c.self.view_is) (λ q l. absurd (no_fiber (the_view c.self.inside) c.self.inside.scheduler _ _ c.self.invariant.0 q l c.args.worker (stop_is (the_view c.self.inside) c.self.inside.scheduler _ _ c.self.invariant.0 q l false (sym c.if-is_stopped.false ∙ c.is_stopped.ensures), omega (arith, c.if-worker-workers.false, c.workers.ensures.value)) (idle_where (the_view c.self.inside) c.self.inside.scheduler _ _ c.self.invariant.0 q l c.args.worker c.in-None.ensures) c.in-Ready.fiber (ap (λ p. Some (picked p)) (sym c.in-Ready.is) ∙ c.in-Some-find.ensures.value) (sym c.in_default-held_by.ensures)))

pub returns-in_default-held_by-clause-picked : goal.returns-in_default-held_by-clause-picked
returns-in_default-held_by-clause-picked c = rw (← c.self.view_is) (λ q l. absurd (no_fiber (the_view c.self.inside) c.self.inside.scheduler _ _ c.self.invariant.0 q l c.args.worker (stop_is (the_view c.self.inside) c.self.inside.scheduler _ _ c.self.invariant.0 q l false (sym c.if-is_stopped.false ∙ c.is_stopped.ensures), omega (arith, c.if-worker-workers.false, c.workers.ensures.value)) (idle_where (the_view c.self.inside) c.self.inside.scheduler _ _ c.self.invariant.0 q l c.args.worker c.in-None.ensures) c.in-Ready.fiber (ap (λ p. Some (picked p)) (sym c.in-Ready.is) ∙ c.in-Some-find.ensures.value) (sym c.in_default-held_by.ensures)))

pub returns-in-Some-held_by-clause-given : goal.returns-in-Some-held_by-clause-given
returns-in-Some-held_by-clause-given c = rw (← c.self.view_is) (λ q l. let stands = resume_step (the_view c.self.inside) c.self.inside.scheduler _ _ c.self.invariant.0 q l c.args.worker (stop_is (the_view c.self.inside) c.self.inside.scheduler _ _ c.self.invariant.0 q l false (sym c.if-is_stopped.false ∙ c.is_stopped.ensures), omega (arith, c.if-worker-workers.false, c.workers.ensures.value)) (idle_where (the_view c.self.inside) c.self.inside.scheduler _ _ c.self.invariant.0 q l c.args.worker c.in-None.ensures) c.in-Ready.fiber (ap (λ p. Some (picked p)) (sym c.in-Ready.is) ∙ c.in-Some-find.ensures.value) c.in-Some-held_by.held (sym c.in-Some-held_by.ensures) in (resume_given (the_view c.self.inside) c.self.inside.scheduler _ _ c.self.invariant.0 q l c.args.worker (stop_is (the_view c.self.inside) c.self.inside.scheduler _ _ c.self.invariant.0 q l false (sym c.if-is_stopped.false ∙ c.is_stopped.ensures), omega (arith, c.if-worker-workers.false, c.workers.ensures.value)) (idle_where (the_view c.self.inside) c.self.inside.scheduler _ _ c.self.invariant.0 q l c.args.worker c.in-None.ensures) c.in-Ready.fiber (ap (λ p. Some (picked p)) (sym c.in-Ready.is) ∙ c.in-Some-find.ensures.value) c.in-Some-held_by.held (sym c.in-Some-held_by.ensures), stands.1, stands.0))

pub returns-in-Some-held_by-clause-place : goal.returns-in-Some-held_by-clause-place
returns-in-Some-held_by-clause-place c = rw (← c.self.view_is) (λ q l. rw (← c.self.invariant.0.core q) (resume_place (the_view c.self.inside) c.self.inside.scheduler _ _ c.self.invariant.0 q l c.args.worker (stop_is (the_view c.self.inside) c.self.inside.scheduler _ _ c.self.invariant.0 q l false (sym c.if-is_stopped.false ∙ c.is_stopped.ensures), omega (arith, c.if-worker-workers.false, c.workers.ensures.value)) (idle_where (the_view c.self.inside) c.self.inside.scheduler _ _ c.self.invariant.0 q l c.args.worker c.in-None.ensures) c.in-Ready.fiber (ap (λ p. Some (picked p)) (sym c.in-Ready.is) ∙ c.in-Some-find.ensures.value) c.in-Some-held_by.held (sym c.in-Some-held_by.ensures), subst (λ x. IsAt c.self.inside.scheduler.queues x c.in-Some-find.field-0.place) c.in-Ready.is c.in-Some-find.ensures.place))
