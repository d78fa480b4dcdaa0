use Rattle.std.proofs.Common.{[], ◌∷◌, ◌++◌, List, refl, sym, ap, ◌∙◌, arith}
use Rattle.std.proofs.lemmas.Grind.{common_steps}
use Rattle.job_core.specs.declared.names.Event.{Event}
use Rattle.job_core.specs.declared.names.Event.TheVariants.{Finish}
use Rattle.job_core.specs.declared.names.JobName.TheVariants.{Logic}
use Rattle.job_scheduler.specs.Logged.{setup_of}
use Rattle.job_scheduler.specs.contracts.jobs.JobLog.{the_view}
use Rattle.job_scheduler.proofs.Kept.{kept_after}
use Rattle.job_scheduler.proofs.Turns.{turned_next}
use Rattle.job_scheduler.proofs.Needed.{end_runs, table, turn_counter}
use Rattle.job_scheduler.proofs.jobs.JobLog.turn.Goals as goal

pub turn-requires-clause-runs : goal.turn-requires-clause-runs
turn-requires-clause-runs c = end_runs (the_view c.self.inside) c.self.inside.scheduler _ _ c.self.invariant.0 c.args.worker (Logic c.args.frame) (rw (← c.self.view_is) at c.requires)

pub turn-requires-clause-table : goal.turn-requires-clause-table
turn-requires-clause-table c = table (the_view c.self.inside) c.self.inside.scheduler _ _ c.self.invariant.0 (Finish c.args.worker (Logic c.args.frame)) (rw (← c.self.view_is) at c.requires)

pub turn-requires-clause-key : goal.turn-requires-clause-key
turn-requires-clause-key c = turn_counter (the_view c.self.inside) c.self.inside.scheduler _ _ c.self.invariant.0 c.args.worker c.args.frame (rw (← c.self.view_is) at c.requires)

pub invariant_of-self-2 : goal.invariant_of-self-2
invariant_of-self-2 c = (
  kept_after (the_view c.self.inside) c.self.inside.scheduler c.turn.new.self _ _ _ _ c.push_reserved.new.self.items (Finish c.args.worker (Logic c.args.frame)) c.self.invariant.0
      (c.push_reserved.ensures.items ∙ ap (λ (l : List Event). l ++ Finish c.args.worker (Logic c.args.frame) ∷ []) c.reserve.ensures.items)
      (λ q. c.in_ok-turn.ensures.ok (setup_of (the_view c.self.inside) q) (sym c.frames.ensures.value) refl) (λ h. grind (arith, common_steps)),
  turned_next _ _ c.push_reserved.new.self.items (Finish c.args.worker (Logic c.args.frame)) c.self.invariant.1 (c.push_reserved.ensures.items ∙ ap (λ (l : List Event). l ++ Finish c.args.worker (Logic c.args.frame) ∷ []) c.reserve.ensures.items),
)
