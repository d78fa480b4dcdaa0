use Rattle.std.proofs.Common.{[], ◌∷◌, ◌++◌, List, ap, ◌∙◌, arith}
use Rattle.std.proofs.lemmas.Grind.{common_steps}
use Rattle.job_core.specs.declared.names.Event.{Event}
use Rattle.job_core.specs.declared.names.Event.TheVariants.{Hold}
use Rattle.job_core.specs.declared.names.JobName.TheVariants.{Logic}
use Rattle.job_scheduler.specs.Logged.{setup_of}
use Rattle.job_scheduler.specs.contracts.jobs.JobLog.{the_view}
use Rattle.job_scheduler.proofs.Kept.{kept_after}
use Rattle.job_scheduler.proofs.Turns.{turned_next}
use Rattle.job_scheduler.proofs.Needed.{hold_later, hold_row, hold_runs, slots_are, table}
use Rattle.job_scheduler.proofs.jobs.JobLog.hold.Goals as goal

pub hold-requires-clause-runs : goal.hold-requires-clause-runs
hold-requires-clause-runs c = hold_runs (the_view c.self.inside) c.self.inside.scheduler _ _ c.self.invariant.0 c.args.worker c.args.frame (rw (← c.self.view_is) at c.requires)

pub hold-requires-clause-table : goal.hold-requires-clause-table
hold-requires-clause-table c = table (the_view c.self.inside) c.self.inside.scheduler _ _ c.self.invariant.0 (Hold c.args.worker (Logic c.args.frame)) (rw (← c.self.view_is) at c.requires)

pub hold-requires-clause-later : goal.hold-requires-clause-later
hold-requires-clause-later c = hold_later (the_view c.self.inside) c.self.inside.scheduler _ _ c.self.invariant.0 c.args.worker c.args.frame (rw (← c.self.view_is) at c.requires)

pub hold-requires-clause-unshown : goal.hold-requires-clause-unshown
hold-requires-clause-unshown c = hold_row (the_view c.self.inside) c.self.inside.scheduler _ _ c.self.invariant.0 c.args.worker c.args.frame (rw (← c.self.view_is) at c.requires)

pub invariant_of-self-2 : goal.invariant_of-self-2
invariant_of-self-2 c = (
  kept_after (the_view c.self.inside) c.self.inside.scheduler c.hold.new.self _ _ _ _ c.push_reserved.new.self.items (Hold c.args.worker (Logic c.args.frame)) c.self.invariant.0
      (c.push_reserved.ensures.items ∙ ap (λ (l : List Event). l ++ Hold c.args.worker (Logic c.args.frame) ∷ []) c.reserve.ensures.items)
      (λ q. c.in_ok-hold.ensures.ok (setup_of (the_view c.self.inside) q) (slots_are (the_view c.self.inside) c.self.inside.scheduler _ _ c.self.invariant.0 (Hold c.args.worker (Logic c.args.frame)) (rw (← c.self.view_is) at c.requires))) (λ h. grind (arith, common_steps)),
  turned_next _ _ c.push_reserved.new.self.items (Hold c.args.worker (Logic c.args.frame)) c.self.invariant.1 (c.push_reserved.ensures.items ∙ ap (λ (l : List Event). l ++ Hold c.args.worker (Logic c.args.frame) ∷ []) c.reserve.ensures.items),
)
