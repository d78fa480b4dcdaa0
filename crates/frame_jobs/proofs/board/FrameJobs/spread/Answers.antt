use Rattle.std.proofs.Common.{arith}
use Rattle.job_core.specs.declared.names.JobName.TheVariants.{Logic}
use Rattle.job_core.specs.declared.names.Event.TheVariants.{Spread, Hold}
use Rattle.job_scheduler.proofs.Tests.{is_above}
use Rattle.frame_jobs.specs.contracts.board.FrameJobs.{the_view}
use Rattle.frame_jobs.proofs.BoardEvents.{spreads, waits, after_of, held_job, held_step}
use Rattle.frame_jobs.proofs.board.FrameJobs.spread.Goals as goal

pub invariant_of-self-then-has_slot : goal.invariant_of-self-then-has_slot
invariant_of-self-then-has_slot c =
    after_of (the_view c.self.inside) (Spread c.args.worker (Logic c.in-Logic.frame)) c.self.invariant
    (spreads (the_view c.self.inside) c.self.invariant c.args.worker c.in_ok-held.held c.in_ok-held.ensures c.in-Logic.frame (held_job _ _ _ c.held.view_is c.in-Logic.is)
    (let e = held_step _ _ c.held.view_is in omega (arith, e, c.if-held-ne0.false)) (λ q l. (c.has_slot.ensures q l).0 c.if-has_slot.true))
    c.spread.new.self c.in-Ok.ensures.ok

pub invariant_of-self-else-has_slot : goal.invariant_of-self-else-has_slot
invariant_of-self-else-has_slot c =
    after_of (the_view c.self.inside) (Hold c.args.worker (Logic c.in-Logic.frame)) c.self.invariant
    (waits (the_view c.self.inside) c.self.invariant c.args.worker c.in_ok-held.held c.in_ok-held.ensures c.in-Logic.frame (held_job _ _ _ c.held.view_is c.in-Logic.is)
    (let e = held_step _ _ c.held.view_is in omega (arith, e, c.if-held-ne0.false)) (λ q l. is_above _ _ _ (c.has_slot.ensures q l) c.if-has_slot.false))
    c.hold.new.self c.in-Ok-hold.ensures.ok
