use Rattle.std.proofs.Common.{subst, sym}
use Rattle.log_text.specs.Readings.{IsLog}
use Rattle.view_commands.proofs.paging.page_session.Goals as goal

pub returns-clause-ok : goal.returns-clause-ok
returns-clause-ok g c =
    c.page_events.ensures.ok c.args.log.items (subst (λ events. IsLog c.args.log.items c.in-Ok.log.0 events) (sym c.deref.ensures.value) c.in-Ok.ensures.ok)

pub returns-clause-part : goal.returns-clause-part
returns-clause-part g c =
    c.page_events.ensures.part c.args.log.items (subst (λ events. IsLog c.args.log.items c.in-Ok.log.0 events) (sym c.deref.ensures.value) c.in-Ok.ensures.ok)

pub returns-clause-fault : goal.returns-clause-fault
returns-clause-fault g c =
    c.page_events.ensures.fault c.args.log.items (subst (λ events. IsLog c.args.log.items c.in-Ok.log.0 events) (sym c.deref.ensures.value) c.in-Ok.ensures.ok)
