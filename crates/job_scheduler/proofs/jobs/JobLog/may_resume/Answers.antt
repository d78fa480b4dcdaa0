use Rattle.std.proofs.Common.{◌==◌, sym, subst, ◌∙◌, arith}
use Rattle.board_model.specs.Board.{Core}
use Rattle.job_queues.specs.Picks.{IsFirstAt}
use Rattle.job_queues.proofs.Founds.{there_at}
use Rattle.job_scheduler.proofs.Tests.{is_not}
use Rattle.job_scheduler.specs.contracts.jobs.JobLog.{the_view}
use Rattle.job_scheduler.proofs.Kept.{few_jobs}
use Rattle.job_scheduler.proofs.Looked.{resume_holder, resume_ready, resume_legal, resume_stands, holder_there}
use Rattle.job_scheduler.proofs.jobs.JobLog.may_resume.Goals as goal

pub returns-then-not-is_free-clause-none : goal.returns-then-not-is_free-clause-none
returns-then-not-is_free-clause-none c = λ e q l m. is_not _ _ (c.is_free.ensures q l) c.if-not-is_free.true ((m.0, m.1.0), m.1.1)

pub holder-requires : goal.holder-requires
holder-requires c = let few = few_jobs (the_view c.self.inside) c.self.inside.scheduler _ _ c.self.invariant.0 in omega arith

pub returns-in_default-clause-none : goal.returns-in_default-clause-none
returns-in_default-clause-none c = rw (← c.self.view_is) (λ e q l m. let z = resume_holder (the_view c.self.inside) c.self.inside.scheduler _ _ c.self.invariant.0 q l c.args.worker c.args.job m in omega (arith, c.in_default.ensures))

pub returns-in_default-find_ready-clause-none : goal.returns-in_default-find_ready-clause-none
returns-in_default-find_ready-clause-none c = rw (← c.self.view_is) (λ e q l m. let z = sym (resume_ready (the_view c.self.inside) c.self.inside.scheduler _ _ c.self.invariant.0 q l c.args.worker c.args.job c.in-Some.fiber c.in-Some.ensures m) ∙ c.in_default-find_ready.ensures in cc)

pub returns-in_default-held_by-clause-none : goal.returns-in_default-held_by-clause-none
returns-in_default-held_by-clause-none c = rw (← c.self.view_is) (λ e q l. absurd (holder_there (the_view c.self.inside) c.self.inside.scheduler _ _ c.self.invariant.0 q l c.args.worker c.args.job c.in-Some.fiber c.in-Some.ensures c.in_default-held_by.ensures))

pub returns-clause-some : goal.returns-clause-some
returns-clause-some c = rw (← c.self.view_is) (λ q l.
    let free = ((rw (← c.self.view_is) at c.is_free.ensures) q l).0 c.if-not-is_free.false in
    let legal = resume_legal (the_view c.self.inside) c.self.inside.scheduler _ _ c.self.invariant.0 q l c.args.worker c.args.job c.in-Some.fiber c.in-Some.ensures free (there_at (λ other. c.in-Some.fiber == other) c.self.inside.scheduler.queues.ready c.in-Some-find_ready.place c.in-Some-find_ready.ensures) in
    let stands = resume_stands (the_view c.self.inside) c.self.inside.scheduler _ _ c.self.invariant.0 q l c.args.worker c.args.job c.in-Some.fiber c.in-Some.ensures c.in-Some-held_by.held c.in-Some-held_by.ensures legal in
    (legal, stands.1, stands.0))

pub returns-clause-place : goal.returns-clause-place
returns-clause-place c = rw (← c.self.view_is) (λ q. subst (λ (x : Core). IsFirstAt (λ other. c.in-Some.fiber == other) x.queues.ready c.in-Some-find_ready.place) (c.self.invariant.0.core q) c.in-Some-find_ready.ensures)
