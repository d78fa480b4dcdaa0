use Rattle.std.proofs.Common.{Ok, Err, sym, ap, subst}
use Rattle.std.proofs.lemmas.Result.{err_from_is_err_and}
use Rattle.job_core.specs.declared.names.Event.TheVariants.{Emit}
use Rattle.job_scheduler.specs.Looks.{IsToShow}
use Rattle.job_scheduler.specs.declared.board_fault.BoardFault.TheVariants.{OutOfMemory}
use Rattle.task_board.specs.FrameStore.{FrameStoreOf}
use Rattle.task_board.specs.Boards.{IsEmitRefused, IsShown, state_in}
use Rattle.task_board.proofs.BoardEvents.{there_for, known, next, kept_after, happens, seen_as, emit_refused}
use Rattle.task_board.proofs.board.TaskBoard.emit.Goals as goal

pub returns-in_err-frame-clause-refused : goal.returns-in_err-frame-clause-refused
returns-in_err-frame-clause-refused c =
    let p = err_from_is_err_and c.from_residual.result c.from_residual.ensures.1 in
    rw (p.1, p.2) (subst (λ b. IsEmitRefused b c.in_err-frame.field-0.0) c.self.view_is (emit_refused (seen_as c.self.inside.session.now c.self.inside.jobs) c.in_err-frame.field-0.0 (known c.self.inside.session.now c.self.inside.jobs c.self.inside.frame_store c.self.invariant (IsToShow (Err c.in_err-frame.field-0.0)) c.in_err-frame.ensures)))

pub emit-requires : goal.emit-requires
emit-requires c = next c.self.inside.session.now c.self.inside.jobs c.self.inside.frame_store c.self.invariant (Emit c.in_ok-frame.frame) (known c.self.inside.session.now c.self.inside.jobs c.self.inside.frame_store c.self.invariant (IsToShow (Ok c.in_ok-frame.frame)) c.in_ok-frame.ensures)

pub show-requires-clause-slot : goal.show-requires-clause-slot
show-requires-clause-slot c = (there_for c.self.inside.session.now c.self.inside.jobs c.self.inside.frame_store c.self.invariant (Emit c.in_ok-frame.frame) (known c.self.inside.session.now c.self.inside.jobs c.self.inside.frame_store c.self.invariant (IsToShow (Ok c.in_ok-frame.frame)) c.in_ok-frame.ensures)).0

pub show-requires-clause-turn : goal.show-requires-clause-turn
show-requires-clause-turn c = (there_for c.self.inside.session.now c.self.inside.jobs c.self.inside.frame_store c.self.invariant (Emit c.in_ok-frame.frame) (known c.self.inside.session.now c.self.inside.jobs c.self.inside.frame_store c.self.invariant (IsToShow (Ok c.in_ok-frame.frame)) c.in_ok-frame.ensures)).1

pub returns-in_default-clause-refused : goal.returns-in_default-clause-refused
returns-in_default-clause-refused c = subst (λ b. IsEmitRefused b OutOfMemory) c.self.view_is (c.in_ok-frame.frame, (known c.self.inside.session.now c.self.inside.jobs c.self.inside.frame_store c.self.invariant (IsToShow (Ok c.in_ok-frame.frame)) c.in_ok-frame.ensures))

pub invariant_of-self-2 : goal.invariant_of-self-2
invariant_of-self-2 c = kept_after c.self.inside.session.now c.self.inside.jobs c.self.inside.frame_store c.self.invariant (Emit c.in_ok-frame.frame) (known c.self.inside.session.now c.self.inside.jobs c.self.inside.frame_store c.self.invariant (IsToShow (Ok c.in_ok-frame.frame)) c.in_ok-frame.ensures) c.emit.new.self c.in-Ok.ensures.ok c.show.new.self (c.show.ensures.stored (state_in (seen_as c.self.inside.session.now c.self.inside.jobs)))

pub returns-clause-ok : goal.returns-clause-ok
returns-clause-ok c =
    let game = ap (λ (k : FrameStoreOf). k.game) c.self.invariant.frame_store_is in
    let now = seen_as c.self.inside.session.now c.emit.new.self in
    subst (λ b. IsShown b now c.show.result) c.self.view_is
    (subst (IsShown (seen_as c.self.inside.session.now c.self.inside.jobs) now) (sym c.show.ensures.shown) (game, happens c.self.inside.session.now c.self.inside.jobs c.self.inside.frame_store c.self.invariant (Emit c.in_ok-frame.frame) (known c.self.inside.session.now c.self.inside.jobs c.self.inside.frame_store c.self.invariant (IsToShow (Ok c.in_ok-frame.frame)) c.in_ok-frame.ensures) c.emit.new.self c.in-Ok.ensures.ok))
