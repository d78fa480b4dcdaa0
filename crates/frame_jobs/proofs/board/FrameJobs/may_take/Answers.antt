use Rattle.std.proofs.Common.{◌<◌, sym, ◌∙◌, arith}
use Rattle.job_queues.specs.Names.{picked}
use Rattle.frame_jobs.specs.contracts.board.FrameJobs.{the_view}
use Rattle.frame_jobs.proofs.Taking.{somebody, nobody}
use Rattle.frame_jobs.proofs.board.FrameJobs.may_take.Goals as goal

pub returns-in-Some-clause-somebody : goal.returns-in-Some-clause-somebody
returns-in-Some-clause-somebody c =
    let some : 0 < c.self.inside.jobs.numbers.slots = omega (arith, c.self.invariant.within.a_slot) in
    rw (← c.self.view_is) (λ e. somebody (the_view c.self.inside) some (picked c.in-Some.field-0) c.in-Some.ensures (λ q l. sym (c.is_stopped.ensures q l) ∙ c.if-is_stopped.false))

pub returns-in-None-clause-nobody : goal.returns-in-None-clause-nobody
returns-in-None-clause-nobody c =
    let some : 0 < c.self.inside.jobs.numbers.slots = omega (arith, c.self.invariant.within.a_slot) in
    rw (← c.self.view_is) (λ e. nobody (the_view c.self.inside) some c.in-None.ensures)
