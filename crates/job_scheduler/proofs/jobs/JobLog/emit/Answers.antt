use Rattle.std.proofs.Common.{[], ◌∷◌, ◌++◌, List, ap, ◌∙◌, arith}
use Rattle.std.proofs.lemmas.Grind.{common_steps}
use Rattle.job_core.specs.declared.names.Event.{Event}
use Rattle.job_core.specs.declared.names.Event.TheVariants.{Emit}
use Rattle.job_scheduler.specs.Logged.{setup_of}
use Rattle.job_scheduler.specs.contracts.jobs.JobLog.{the_view}
use Rattle.job_scheduler.proofs.Kept.{kept_after}
use Rattle.job_scheduler.proofs.Turns.{turned_next}
use Rattle.job_scheduler.proofs.Needed.{a_slot, emit_few, emit_room, emit_row, slots_are}
use Rattle.job_scheduler.proofs.jobs.JobLog.emit.Goals as goal

pub emit-requires-clause-stands : goal.emit-requires-clause-stands
emit-requires-clause-stands c = emit_row (the_view c.self.inside) c.self.inside.scheduler _ _ c.self.invariant.0 c.args.frame (rw (← c.self.view_is) at c.requires)

pub emit-requires-clause-room : goal.emit-requires-clause-room
emit-requires-clause-room c = emit_room (the_view c.self.inside) c.self.inside.scheduler _ _ c.self.invariant.0 c.args.frame (rw (← c.self.view_is) at c.requires)

pub emit-requires-clause-slots : goal.emit-requires-clause-slots
emit-requires-clause-slots c = a_slot (the_view c.self.inside) c.self.inside.scheduler _ _ c.self.invariant.0 (Emit c.args.frame) (rw (← c.self.view_is) at c.requires)

pub emit-requires-clause-few : goal.emit-requires-clause-few
emit-requires-clause-few c = let few = emit_few (the_view c.self.inside) c.self.inside.scheduler _ _ c.self.invariant.0 c.args.frame (rw (← c.self.view_is) at c.requires) in omega arith

pub invariant_of-self-2 : goal.invariant_of-self-2
invariant_of-self-2 c = (
  kept_after (the_view c.self.inside) c.self.inside.scheduler c.emit.new.self _ _ _ _ c.push_reserved.new.self.items (Emit c.args.frame) c.self.invariant.0
      (c.push_reserved.ensures.items ∙ ap (λ (l : List Event). l ++ Emit c.args.frame ∷ []) c.reserve.ensures.items)
      (λ q. c.emit.ensures (setup_of (the_view c.self.inside) q) (slots_are (the_view c.self.inside) c.self.inside.scheduler _ _ c.self.invariant.0 (Emit c.args.frame) (rw (← c.self.view_is) at c.requires))) (λ h. grind (arith, common_steps)),
  turned_next _ _ c.push_reserved.new.self.items (Emit c.args.frame) c.self.invariant.1 (c.push_reserved.ensures.items ∙ ap (λ (l : List Event). l ++ Emit c.args.frame ∷ []) c.reserve.ensures.items),
)
