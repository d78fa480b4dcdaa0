use Rattle.std.proofs.Common.{[], ◌∷◌, ◌++◌, List, ap, ◌∙◌, arith}
use Rattle.std.proofs.lemmas.Grind.{common_steps}
use Rattle.job_core.specs.declared.names.Event.{Event}
use Rattle.job_core.specs.declared.names.Event.TheVariants.{Resume}
use Rattle.job_scheduler.specs.Logged.{setup_of}
use Rattle.job_scheduler.specs.contracts.jobs.JobLog.{the_view}
use Rattle.job_scheduler.proofs.Kept.{kept_after}
use Rattle.job_scheduler.proofs.Turns.{turned_next}
use Rattle.job_scheduler.proofs.Needed.{resume_fiber, resume_held, resume_worker, table}
use Rattle.job_scheduler.proofs.jobs.JobLog.resume.Goals as goal

pub resume-requires-clause-place : goal.resume-requires-clause-place
resume-requires-clause-place c = let given = rw (← c.self.view_is) at c.requires in rw (c.self.invariant.0.core given.next.questions) given.ready

pub resume-requires-clause-held : goal.resume-requires-clause-held
resume-requires-clause-held c = resume_held (the_view c.self.inside) c.self.inside.scheduler _ _ c.self.invariant.0 c.args.worker c.args.job (rw (← c.self.view_is) at c.requires).next c.args.fiber (let given = rw (← c.self.view_is) at c.requires in rw (c.self.invariant.0.core given.next.questions) given.holder)

pub resume-requires-clause-fiber : goal.resume-requires-clause-fiber
resume-requires-clause-fiber c = resume_fiber (the_view c.self.inside) c.self.inside.scheduler _ _ c.self.invariant.0 c.args.worker c.args.job (rw (← c.self.view_is) at c.requires).next c.args.fiber (let given = rw (← c.self.view_is) at c.requires in rw (c.self.invariant.0.core given.next.questions) given.holder)

pub resume-requires-clause-worker : goal.resume-requires-clause-worker
resume-requires-clause-worker c = resume_worker (the_view c.self.inside) c.self.inside.scheduler _ _ c.self.invariant.0 c.args.worker c.args.job (rw (← c.self.view_is) at c.requires).next c.args.fiber (let given = rw (← c.self.view_is) at c.requires in rw (c.self.invariant.0.core given.next.questions) given.holder)

pub resume-requires-clause-table : goal.resume-requires-clause-table
resume-requires-clause-table c = table (the_view c.self.inside) c.self.inside.scheduler _ _ c.self.invariant.0 (Resume c.args.worker c.args.job) (rw (← c.self.view_is) at c.requires).next

pub invariant_of-self-2 : goal.invariant_of-self-2
invariant_of-self-2 c = (
  kept_after (the_view c.self.inside) c.self.inside.scheduler c.resume.new.self _ _ _ _ c.push_reserved.new.self.items (Resume c.args.worker c.args.job) c.self.invariant.0
      (c.push_reserved.ensures.items ∙ ap (λ (l : List Event). l ++ Resume c.args.worker c.args.job ∷ []) c.reserve.ensures.items)
      (λ q. c.resume.ensures (setup_of (the_view c.self.inside) q) c.args.job (let given = rw (← c.self.view_is) at c.requires in rw (c.self.invariant.0.core given.next.questions) given.holder)) (λ h. grind (arith, common_steps)),
  turned_next _ _ c.push_reserved.new.self.items (Resume c.args.worker c.args.job) c.self.invariant.1 (c.push_reserved.ensures.items ∙ ap (λ (l : List Event). l ++ Resume c.args.worker c.args.job ∷ []) c.reserve.ensures.items),
)
