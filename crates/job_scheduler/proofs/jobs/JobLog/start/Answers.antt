use Rattle.std.proofs.Common.{[], ◌∷◌, ◌++◌, List, ap, ◌∙◌, arith}
use Rattle.std.proofs.lemmas.Grind.{common_steps}
use Rattle.job_core.specs.declared.names.Event.{Event}
use Rattle.job_core.specs.declared.names.Event.TheVariants.{Start}
use Rattle.job_scheduler.specs.Logged.{setup_of}
use Rattle.job_scheduler.specs.contracts.jobs.JobLog.{the_view}
use Rattle.job_scheduler.proofs.Kept.{kept_after}
use Rattle.job_scheduler.proofs.Turns.{turned_next}
use Rattle.job_scheduler.proofs.Needed.{start_free, start_worker, table}
use Rattle.job_scheduler.proofs.jobs.JobLog.start.Goals as goal

pub start-requires-clause-place : goal.start-requires-clause-place
start-requires-clause-place c = let given = rw (← c.self.view_is) at c.requires in rw (c.self.invariant.0.core given.next.questions) given.queued

pub start-requires-clause-free : goal.start-requires-clause-free
start-requires-clause-free c = start_free (the_view c.self.inside) c.self.inside.scheduler _ _ c.self.invariant.0 c.args.worker c.args.job (rw (← c.self.view_is) at c.requires).next

pub start-requires-clause-worker : goal.start-requires-clause-worker
start-requires-clause-worker c = start_worker (the_view c.self.inside) c.self.inside.scheduler _ _ c.self.invariant.0 c.args.worker c.args.job (rw (← c.self.view_is) at c.requires).next

pub start-requires-clause-table : goal.start-requires-clause-table
start-requires-clause-table c = table (the_view c.self.inside) c.self.inside.scheduler _ _ c.self.invariant.0 (Start c.args.worker c.args.job) (rw (← c.self.view_is) at c.requires).next

pub invariant_of-self-2 : goal.invariant_of-self-2
invariant_of-self-2 c = (
  kept_after (the_view c.self.inside) c.self.inside.scheduler c.start.new.self _ _ _ _ c.push_reserved.new.self.items (Start c.args.worker c.args.job) c.self.invariant.0
      (c.push_reserved.ensures.items ∙ ap (λ (l : List Event). l ++ Start c.args.worker c.args.job ∷ []) c.reserve.ensures.items)
      (λ q. c.start.ensures (setup_of (the_view c.self.inside) q)) (λ h. grind (arith, common_steps)),
  turned_next _ _ c.push_reserved.new.self.items (Start c.args.worker c.args.job) c.self.invariant.1 (c.push_reserved.ensures.items ∙ ap (λ (l : List Event). l ++ Start c.args.worker c.args.job ∷ []) c.reserve.ensures.items),
)
