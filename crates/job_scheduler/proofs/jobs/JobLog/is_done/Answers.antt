use Rattle.std.proofs.Common.{◌≡◌, true, false, sym, ◌∙◌, arith}
use Rattle.job_scheduler.proofs.Tests.{passes, fails}
use Rattle.job_scheduler.specs.contracts.jobs.JobLog.{the_view}
use Rattle.job_scheduler.proofs.Looked.{stop_is, emitted_is}
use Rattle.job_scheduler.proofs.jobs.JobLog.is_done.Goals as goal

pub returns-then-is_stopped : goal.returns-then-is_stopped
returns-then-is_stopped c = rw (← c.self.view_is) (λ q l. fails _ (λ d. let on = stop_is (the_view c.self.inside) c.self.inside.scheduler _ _ c.self.invariant.0 q l true (sym c.if-is_stopped.true ∙ c.is_stopped.ensures) in let z : true ≡ false = sym on ∙ d.0 in cc))

pub returns-then-emitted-frames : goal.returns-then-emitted-frames
returns-then-emitted-frames c = rw (← c.self.view_is) (λ q l. passes _ (stop_is (the_view c.self.inside) c.self.inside.scheduler _ _ c.self.invariant.0 q l false (sym c.if-is_stopped.false ∙ c.is_stopped.ensures), let is = emitted_is (the_view c.self.inside) c.self.inside.scheduler _ _ c.self.invariant.0 q l in omega (arith, c.emitted.ensures, c.frames.ensures.value, c.if-emitted-frames.true)))

pub returns : goal.returns
returns c = rw (← c.self.view_is) (λ q l. fails _ (λ d. let is = emitted_is (the_view c.self.inside) c.self.inside.scheduler _ _ c.self.invariant.0 q l in absurd (omega (arith, c.emitted.ensures, c.frames.ensures.value, c.if-emitted-frames.false, d.1))))
