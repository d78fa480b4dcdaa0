use Rattle.std.proofs.Common.{◌≡◌, ◌<◌, true, false, Some, None, sym, ◌∙◌, arith}
use Rattle.job_scheduler.proofs.Tests.{passes, fails}
use Rattle.board_model.specs.Pick.{given}
use Rattle.job_queues.specs.Names.{picked}
use Rattle.job_scheduler.specs.Logged.{kept}
use Rattle.task_board.proofs.BoardEvents.{known, known_of, seen_as}
use Rattle.task_board.proofs.IdleWorkers.{nobody_given}
use Rattle.task_board.proofs.board.TaskBoard.may_take.Goals as goal

pub returns-then-is_stopped-clause-test : goal.returns-then-is_stopped-clause-test
returns-then-is_stopped-clause-test c =
    let stopped = known c.self.inside.session.now c.self.inside.jobs c.self.inside.frame_store c.self.invariant (λ s st. c.is_stopped.result ≡ st.stopped) c.is_stopped.ensures in
    rw (← c.self.view_is) (fails _ (λ g. let z : true ≡ false = (sym c.if-is_stopped.true ∙ stopped) ∙ g.0 in cc))

pub returns-then-is_stopped-clause-nobody : goal.returns-then-is_stopped-clause-nobody
returns-then-is_stopped-clause-nobody c =
    let stopped = known c.self.inside.session.now c.self.inside.jobs c.self.inside.frame_store c.self.invariant (λ s st. c.is_stopped.result ≡ st.stopped) c.is_stopped.ensures in
    let some : 0 < c.self.inside.jobs.numbers.slots = omega (arith, c.self.invariant.within.a_slot) in
    rw (← c.self.view_is) (λ e. nobody_given (seen_as c.self.inside.session.now c.self.inside.jobs) c.self.invariant.lawful some (λ g. let z : true ≡ false = (sym c.if-is_stopped.true ∙ stopped) ∙ g.0 in cc))

pub returns-in-Some-clause-test : goal.returns-in-Some-clause-test
returns-in-Some-clause-test c =
    let on = known c.self.inside.session.now c.self.inside.jobs c.self.inside.frame_store c.self.invariant (λ s st. c.is_stopped.result ≡ st.stopped) c.is_stopped.ensures in
    let found = known_of c.self.inside.session.now c.self.inside.jobs c.self.inside.frame_store c.self.invariant (λ v q. Some (picked c.in-Some.field-0) ≡ given (kept v q)) (λ q l. c.in-Some.ensures q) in
    rw (← c.self.view_is) (passes _ (sym on ∙ c.if-is_stopped.false, λ n. let z : Some (picked c.in-Some.field-0) ≡ None = found ∙ n in cc))

pub returns-in-None-clause-test : goal.returns-in-None-clause-test
returns-in-None-clause-test c =
    let found = known_of c.self.inside.session.now c.self.inside.jobs c.self.inside.frame_store c.self.invariant (λ v q. None ≡ given (kept v q)) (λ q l. c.in-None.ensures q) in
    rw (← c.self.view_is) (fails _ (λ g. g.1 (sym found)))

pub returns-in-None-clause-nobody : goal.returns-in-None-clause-nobody
returns-in-None-clause-nobody c =
    let some : 0 < c.self.inside.jobs.numbers.slots = omega (arith, c.self.invariant.within.a_slot) in
    let found = known_of c.self.inside.session.now c.self.inside.jobs c.self.inside.frame_store c.self.invariant (λ v q. None ≡ given (kept v q)) (λ q l. c.in-None.ensures q) in
    rw (← c.self.view_is) (λ e. nobody_given (seen_as c.self.inside.session.now c.self.inside.jobs) c.self.invariant.lawful some (λ g. g.1 (sym found)))
