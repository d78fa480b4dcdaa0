use Rattle.std.proofs.Common.{◌≡◌, true, false}
use Rattle.job_core.specs.declared.names.Event.TheVariants.{Stop}
use Rattle.job_scheduler.specs.Logged.{setup_of}
use Rattle.job_scheduler.specs.contracts.jobs.JobLog.{the_view}
use Rattle.job_scheduler.proofs.Kept.{kept_after}
use Rattle.job_scheduler.proofs.Turns.{turned_next}
use Rattle.job_scheduler.proofs.Needed.{stop_room}
use Rattle.job_scheduler.proofs.jobs.JobLog.stop.Goals as goal

pub push_reserved-requires : goal.push_reserved-requires
push_reserved-requires c = stop_room (the_view c.self.inside) c.self.inside.scheduler _ _ c.self.invariant.0 (rw (← c.self.view_is) at c.requires)

pub invariant_of-self : goal.invariant_of-self
invariant_of-self c = (
  kept_after (the_view c.self.inside) c.self.inside.scheduler c.stop.new.self _ _ _ _ c.push_reserved.new.self.items Stop c.self.invariant.0
      c.push_reserved.ensures.items (λ q. c.stop.ensures (setup_of (the_view c.self.inside) q))
      (λ h. let e : true ≡ false = rw (c.stop.ensures (setup_of (the_view c.self.inside) (λ _ _. 0))) at h in absurd cc),
  turned_next _ _ c.push_reserved.new.self.items Stop c.self.invariant.1 c.push_reserved.ensures.items,
)
