use Rattle.std.proofs.Common.{[], ◌∷◌, ◌++◌, List, refl, ap, ◌∙◌, arith}
use Rattle.std.proofs.lemmas.Grind.{common_steps}
use Rattle.job_core.specs.declared.names.Event.{Event}
use Rattle.job_core.specs.declared.names.Event.TheVariants.{Spread}
use Rattle.job_core.specs.declared.names.JobName.TheVariants.{Logic}
use Rattle.job_scheduler.specs.Logged.{setup_of}
use Rattle.job_scheduler.specs.contracts.jobs.JobLog.{the_view}
use Rattle.job_scheduler.proofs.Kept.{kept_after}
use Rattle.job_scheduler.proofs.Turns.{turned_next}
use Rattle.job_scheduler.proofs.Needed.{a_slot, slots_are, spread_counters, spread_room, spread_runs, table}
use Rattle.job_scheduler.proofs.jobs.JobLog.spread.Goals as goal

pub spread-requires-clause-runs : goal.spread-requires-clause-runs
spread-requires-clause-runs c = spread_runs (the_view c.self.inside) c.self.inside.scheduler _ _ c.self.invariant.0 c.args.worker c.args.frame (rw (← c.self.view_is) at c.requires)

pub spread-requires-clause-table : goal.spread-requires-clause-table
spread-requires-clause-table c = table (the_view c.self.inside) c.self.inside.scheduler _ _ c.self.invariant.0 (Spread c.args.worker (Logic c.args.frame)) (rw (← c.self.view_is) at c.requires)

pub spread-requires-clause-thinks_key : goal.spread-requires-clause-thinks_key
spread-requires-clause-thinks_key c = (spread_counters (the_view c.self.inside) c.self.inside.scheduler _ _ c.self.invariant.0 c.args.worker c.args.frame (rw (← c.self.view_is) at c.requires)).0

pub spread-requires-clause-shown_key : goal.spread-requires-clause-shown_key
spread-requires-clause-shown_key c = (spread_counters (the_view c.self.inside) c.self.inside.scheduler _ _ c.self.invariant.0 c.args.worker c.args.frame (rw (← c.self.view_is) at c.requires)).1

pub spread-requires-clause-slots : goal.spread-requires-clause-slots
spread-requires-clause-slots c = a_slot (the_view c.self.inside) c.self.inside.scheduler _ _ c.self.invariant.0 (Spread c.args.worker (Logic c.args.frame)) (rw (← c.self.view_is) at c.requires)

pub spread-requires-clause-room : goal.spread-requires-clause-room
spread-requires-clause-room c = spread_room (the_view c.self.inside) c.self.inside.scheduler _ _ c.self.invariant.0 c.args.worker c.args.frame (rw (← c.self.view_is) at c.requires)

pub invariant_of-self-2 : goal.invariant_of-self-2
invariant_of-self-2 c = (
  kept_after (the_view c.self.inside) c.self.inside.scheduler c.spread.new.self _ _ _ _ c.push_reserved.new.self.items (Spread c.args.worker (Logic c.args.frame)) c.self.invariant.0
      (c.push_reserved.ensures.items ∙ ap (λ (l : List Event). l ++ Spread c.args.worker (Logic c.args.frame) ∷ []) c.reserve.ensures.items)
      (λ q. c.in_ok-spread.ensures.ok (setup_of (the_view c.self.inside) q) (slots_are (the_view c.self.inside) c.self.inside.scheduler _ _ c.self.invariant.0 (Spread c.args.worker (Logic c.args.frame)) (rw (← c.self.view_is) at c.requires)) refl) (λ h. grind (arith, common_steps)),
  turned_next _ _ c.push_reserved.new.self.items (Spread c.args.worker (Logic c.args.frame)) c.self.invariant.1 (c.push_reserved.ensures.items ∙ ap (λ (l : List Event). l ++ Spread c.args.worker (Logic c.args.frame) ∷ []) c.reserve.ensures.items),
)
