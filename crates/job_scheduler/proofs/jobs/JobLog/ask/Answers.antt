use Rattle.std.proofs.Common.{[], ◌∷◌, ◌++◌, List, ap, ◌∙◌, arith}
use Rattle.std.proofs.lemmas.Grind.{common_steps}
use Rattle.job_core.specs.declared.names.Event.{Event}
use Rattle.job_core.specs.declared.names.Event.TheVariants.{Ask}
use Rattle.job_core.specs.declared.names.JobName.TheVariants.{Think}
use Rattle.job_scheduler.specs.Logged.{setup_of}
use Rattle.job_scheduler.specs.contracts.jobs.JobLog.{the_view}
use Rattle.job_scheduler.proofs.Kept.{kept_after}
use Rattle.job_scheduler.proofs.Turns.{turned_next}
use Rattle.job_scheduler.proofs.Needed.{ask_counter, table}
use Rattle.job_scheduler.proofs.Looked.{runs_where}
use Rattle.job_scheduler.proofs.jobs.JobLog.ask.Goals as goal

pub ask-requires-clause-runs : goal.ask-requires-clause-runs
ask-requires-clause-runs c = let given = rw (← c.self.view_is) at c.requires.next in runs_where (the_view c.self.inside) c.self.inside.scheduler _ _ c.self.invariant.0 given.next.questions given.next.lawful c.args.worker (Think c.args.frame c.args.agent) c.args.question given.stands

pub ask-requires-clause-table : goal.ask-requires-clause-table
ask-requires-clause-table c = table (the_view c.self.inside) c.self.inside.scheduler _ _ c.self.invariant.0 (Ask c.args.worker (Think c.args.frame c.args.agent)) (rw (← c.self.view_is) at c.requires.next).next

pub ask-requires-clause-key : goal.ask-requires-clause-key
ask-requires-clause-key c = ask_counter (the_view c.self.inside) c.self.inside.scheduler _ _ c.self.invariant.0 c.args.worker c.args.frame c.args.agent c.args.question (rw (← c.self.view_is) at c.requires.next).next (let given = rw (← c.self.view_is) at c.requires.next in runs_where (the_view c.self.inside) c.self.inside.scheduler _ _ c.self.invariant.0 given.next.questions given.next.lawful c.args.worker (Think c.args.frame c.args.agent) c.args.question given.stands)

pub invariant_of-self-2 : goal.invariant_of-self-2
invariant_of-self-2 c = (
  kept_after (the_view c.self.inside) c.self.inside.scheduler c.ask.new.self _ _ _ _ c.push_reserved.new.self.items (Ask c.args.worker (Think c.args.frame c.args.agent)) c.self.invariant.0
      (c.push_reserved.ensures.items ∙ ap (λ (l : List Event). l ++ Ask c.args.worker (Think c.args.frame c.args.agent) ∷ []) c.reserve.ensures.items)
      (λ q. c.in_ok-ask.ensures.ok (setup_of (the_view c.self.inside) q)) (λ h. grind (arith, common_steps)),
  turned_next _ _ c.push_reserved.new.self.items (Ask c.args.worker (Think c.args.frame c.args.agent)) c.self.invariant.1 (c.push_reserved.ensures.items ∙ ap (λ (l : List Event). l ++ Ask c.args.worker (Think c.args.frame c.args.agent) ∷ []) c.reserve.ensures.items),
)
