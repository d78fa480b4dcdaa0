use Rattle.std.proofs.Common.{[], sym, ◌∷◌, ◌++◌, List, ap, ◌∙◌, arith}
use Rattle.std.proofs.lemmas.Grind.{common_steps}
use Rattle.job_core.specs.declared.names.Event.{Event}
use Rattle.job_core.specs.declared.names.Event.TheVariants.{Finish}
use Rattle.job_scheduler.specs.Logged.{setup_of}
use Rattle.job_scheduler.specs.contracts.jobs.JobLog.{the_view}
use Rattle.job_scheduler.proofs.Kept.{kept_after}
use Rattle.job_scheduler.proofs.Turns.{turned_next, turned_end}
use Rattle.job_scheduler.proofs.Needed.{end_is, end_room, end_row, end_runs, table}
use Rattle.counters.specs.Keys.{counter_of}
use Rattle.job_scheduler.proofs.jobs.JobLog.end.Goals as goal

pub end-requires-clause-runs : goal.end-requires-clause-runs
end-requires-clause-runs c = end_runs (the_view c.self.inside) c.self.inside.scheduler _ _ c.self.invariant.0 c.args.worker c.args.job (rw (← c.self.view_is) at c.requires.next)

pub end-requires-clause-table : goal.end-requires-clause-table
end-requires-clause-table c = table (the_view c.self.inside) c.self.inside.scheduler _ _ c.self.invariant.0 (Finish c.args.worker c.args.job) (rw (← c.self.view_is) at c.requires.next)

pub end-requires-clause-stands : goal.end-requires-clause-stands
end-requires-clause-stands c = end_row (the_view c.self.inside) c.self.inside.scheduler _ _ c.self.invariant.0 c.args.worker c.args.job (rw (← c.self.view_is) at c.requires.next) (counter_of c.args.key) c.requires.counter

pub end-requires-clause-room : goal.end-requires-clause-room
end-requires-clause-room c = end_room (the_view c.self.inside) c.self.inside.scheduler _ _ c.self.invariant.0 c.args.worker c.args.job (rw (← c.self.view_is) at c.requires.next) (counter_of c.args.key) c.requires.counter

pub invariant_of-self-2 : goal.invariant_of-self-2
invariant_of-self-2 c = (
  kept_after (the_view c.self.inside) c.self.inside.scheduler c.end.new.self _ _ _ _ c.push_reserved.new.self.items (Finish c.args.worker c.args.job) c.self.invariant.0
      (c.push_reserved.ensures.items ∙ ap (λ (l : List Event). l ++ Finish c.args.worker c.args.job ∷ []) c.reserve.ensures.items)
      (λ q. c.end.ensures ∙ end_is (the_view c.self.inside) c.self.inside.scheduler _ _ c.self.invariant.0 (setup_of (the_view c.self.inside) q) c.args.worker c.args.job (counter_of c.args.key) c.requires.counter) (λ h. grind (arith, common_steps)),
  sym (turned_end c.self.inside.turned c.args.worker c.args.job (counter_of c.args.key) c.requires.counter) ∙ turned_next _ _ c.push_reserved.new.self.items (Finish c.args.worker c.args.job) c.self.invariant.1 (c.push_reserved.ensures.items ∙ ap (λ (l : List Event). l ++ Finish c.args.worker c.args.job ∷ []) c.reserve.ensures.items),
)
