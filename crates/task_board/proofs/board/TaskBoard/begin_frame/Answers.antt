use Rattle.std.proofs.Common.{◌≤◌, ◌<◌, ◌+◌, inl, inr, subst}
use Rattle.std.proofs.lemmas.Result.{IfErr-weaker, err_from_is_err_and, on_ok_weaker}
use Rattle.job_core.specs.Core.{IsLegalList}
use Rattle.job_core.specs.declared.names.Event.TheVariants.{Spread, Hold}
use Rattle.job_scheduler.proofs.Tests.{is_above}
use Rattle.task_board.specs.Boards.{Played, setup_in, state_in}
use Rattle.task_board.proofs.BoardEvents.{known, spread_needs, hold_needs, spread_refused}
use Rattle.task_board.proofs.Beginning.{neither_begins, spread_begins}
use Rattle.task_board.proofs.board.TaskBoard.begin_frame.Goals as goal

pub returns-in_err-frame-clause-refused : goal.returns-in_err-frame-clause-refused
returns-in_err-frame-clause-refused c =
    let b = c.args.self.now in
    let p = err_from_is_err_and c.from_residual.result c.from_residual.ensures.1 in
    let never = c.in_err-frame.ensures.refused in
    rw (p.1, p.2) (neither_begins b c.args.worker _ (never (Spread c.args.worker) (spread_needs b c.args.worker)) (never (Hold c.args.worker) (hold_needs b c.args.worker)))

pub returns-then-has_slot-clause-ok : goal.returns-then-has_slot-clause-ok
returns-then-has_slot-clause-ok c = on_ok_weaker c.spread.result inl c.spread.ensures.ok

pub returns-then-has_slot-clause-refused : goal.returns-then-has_slot-clause-refused
returns-then-has_slot-clause-refused c =
    let lawful = subst (λ (p : Played). IsLegalList (setup_in p) p.events) c.self.view_is c.self.invariant.lawful in
    let slot = subst (λ (p : Played). c.in_ok-frame.frame ≤ (state_in p).emitted + p.numbers.slots) c.self.view_is
    (known c.self.inside.session.now c.self.inside.jobs c.self.inside.frame_store c.self.invariant (λ s st. c.in_ok-frame.frame ≤ st.emitted + s.slots) (λ q l. (c.has_slot.ensures q l).0 c.if-has_slot.true)) in
    IfErr-weaker c.spread.result _ _ (spread_begins c.args.self.now lawful c.args.worker c.in_ok-frame.frame c.in_ok-frame.ensures.ok slot) c.spread.ensures.refused

pub returns-else-has_slot-clause-ok : goal.returns-else-has_slot-clause-ok
returns-else-has_slot-clause-ok c = on_ok_weaker c.hold.result inr c.hold.ensures.ok

pub returns-else-has_slot-clause-refused : goal.returns-else-has_slot-clause-refused
returns-else-has_slot-clause-refused c =
    let no_slot = subst (λ (p : Played). (state_in p).emitted + p.numbers.slots < c.in_ok-frame.frame) c.self.view_is
    (known c.self.inside.session.now c.self.inside.jobs c.self.inside.frame_store c.self.invariant (λ s st. st.emitted + s.slots < c.in_ok-frame.frame) (λ q l. is_above _ _ _ (c.has_slot.ensures q l) c.if-has_slot.false)) in
    IfErr-weaker c.hold.result _ _ (λ fault r. inr (spread_refused c.args.self.now c.args.worker c.in_ok-frame.frame c.in_ok-frame.ensures.ok no_slot, r)) c.hold.ensures.refused
