use Rattle.std.proofs.Common.{arith}
use Rattle.job_scheduler.proofs.Tests.{passes, fails}
use Rattle.job_scheduler.specs.contracts.jobs.JobLog.{the_view}
use Rattle.job_scheduler.proofs.Looked.{emitted_is}
use Rattle.job_scheduler.proofs.jobs.JobLog.has_slot.Goals as goal

pub returns-then-saturating_sub-emitted : goal.returns-then-saturating_sub-emitted
returns-then-saturating_sub-emitted c = rw (← c.self.view_is) (λ q l. let is = emitted_is (the_view c.self.inside) c.self.inside.scheduler _ _ c.self.invariant.0 q l in passes _ (omega (arith, c.emitted.ensures, c.slots.ensures.value)))

pub returns : goal.returns
returns c = rw (← c.self.view_is) (λ q l. let is = emitted_is (the_view c.self.inside) c.self.inside.scheduler _ _ c.self.invariant.0 q l in fails _ (λ p. absurd (omega (arith, p, c.emitted.ensures, c.slots.ensures.value))))
