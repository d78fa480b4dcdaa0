use Rattle.std.proofs.Common.{Some, sym, ap, ◌∙◌}
use Rattle.job_scheduler.specs.contracts.held.Held.{the_view as held_view}
use Rattle.job_scheduler.specs.contracts.scheduler.Scheduler.{the_view}
use Rattle.job_scheduler.proofs.Writes.{resumed}
use Rattle.job_scheduler.proofs.scheduler.Scheduler.resume.Goals as goal

pub take_found-requires : goal.take_found-requires
take_found-requires c = rw (← c.self.view_is) at c.requires.place

pub returns : goal.returns
returns c = λ s job first.
    let table = rw (← c.self.view_is) at c.requires.table in
    let place = rw (← c.self.view_is) at first in
    rw (← c.self.view_is) (c.hold_on.ensures ∙ rw c.take_found.ensures (resumed (the_view c.self.inside) table s c.args.worker c.args.fiber job (held_view c.held.inside) place (sym c.in-Some.ensures ∙ ap Some (sym c.held.view_is))))
