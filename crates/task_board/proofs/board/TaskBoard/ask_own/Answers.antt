use Rattle.std.proofs.Common.{◌≡◌, Ok, Err, sym, ap, ◌∙◌, inl, inr, ⊎_elim, subst}
use Rattle.job_core.specs.declared.names.Event.TheVariants.{Ask}
use Rattle.job_scheduler.specs.Looks.{IsRunning}
use Rattle.job_scheduler.specs.declared.board_fault.BoardFault.TheVariants.{WrongResult, OutOfMemory}
use Rattle.job_core.specs.Core.{Runs}
use Rattle.task_board.specs.Boards.{Played, IsRefused, state_in}
use Rattle.task_board.specs.Parked.{IsOtherParked}
use Rattle.task_board.proofs.BoardEvents.{known, not_running, other_result, ask_legal, ask_full, seen_as}
use Rattle.task_board.proofs.board.TaskBoard.ask_own.Goals as goal

pub returns-in-Err-clause-refused : goal.returns-in-Err-clause-refused
returns-in-Err-clause-refused c = subst (λ b. IsRefused b c.args.worker (IsOtherParked c.args.parked b.game) (Ask c.args.worker) c.in-Err.fault) c.self.view_is (not_running (seen_as c.self.inside.session.now c.self.inside.jobs) c.args.worker (IsOtherParked c.args.parked c.self.inside.session.now) (Ask c.args.worker) c.in-Err.fault (known c.self.inside.session.now c.self.inside.jobs c.self.inside.frame_store c.self.invariant (IsRunning c.args.worker (Err c.in-Err.fault)) c.in-Err.ensures))

pub returns-then-not-is_parked_at-clause-refused : goal.returns-then-not-is_parked_at-clause-refused
returns-then-not-is_parked_at-clause-refused c =
    let run = known c.self.inside.session.now c.self.inside.jobs c.self.inside.frame_store c.self.invariant (IsRunning c.args.worker (Ok c.in-Ok.held)) c.in-Ok.ensures in
    subst (λ b. IsRefused b c.args.worker (IsOtherParked c.args.parked b.game) (Ask c.args.worker) WrongResult) c.self.view_is
    (other_result (seen_as c.self.inside.session.now c.self.inside.jobs) c.self.invariant.lawful c.args.worker run.0 c.in-Ok.held.job c.in-Ok.held.step run.1 (IsOtherParked c.args.parked c.self.inside.session.now) (Ask c.args.worker) (⊎_elim inl (λ n. inr (inl n)) (c.is_parked_at.ensures.elsewhere c.if-not-is_parked_at.true)))

pub park-requires-clause-legal : goal.park-requires-clause-legal
park-requires-clause-legal c =
    let run = known c.self.inside.session.now c.self.inside.jobs c.self.inside.frame_store c.self.invariant (IsRunning c.args.worker (Ok c.in-Ok.held)) c.in-Ok.ensures in
    let yes = c.is_parked_at.ensures.here c.if-not-is_parked_at.false in
    let game : c.args.parked.game ≡ c.self.inside.session.now = c.requires ∙ sym (ap (λ (b : Played). b.game) c.self.view_is) in
    rw (← c.self.view_is) (ask_legal (seen_as c.self.inside.session.now c.self.inside.jobs) c.self.invariant.lawful c.args.worker run.0 c.in-Ok.held.job c.in-Ok.held.step run.1 c.args.parked yes.0 yes.1 game yes.2)

pub park-requires-clause-runs : goal.park-requires-clause-runs
park-requires-clause-runs c =
    let run = known c.self.inside.session.now c.self.inside.jobs c.self.inside.frame_store c.self.invariant (IsRunning c.args.worker (Ok c.in-Ok.held)) c.in-Ok.ensures in
    let yes = c.is_parked_at.ensures.here c.if-not-is_parked_at.false in
    let game : c.args.parked.game ≡ c.self.inside.session.now = c.requires ∙ sym (ap (λ (b : Played). b.game) c.self.view_is) in
    rw (← c.self.view_is) (ap (state_in (seen_as c.self.inside.session.now c.self.inside.jobs)).phase yes.0 ∙ (run.1 ∙ ap (Runs c.args.worker) (sym yes.1)))

pub returns-in-Err-park-clause-refused : goal.returns-in-Err-park-clause-refused
returns-in-Err-park-clause-refused c =
    let run = known c.self.inside.session.now c.self.inside.jobs c.self.inside.frame_store c.self.invariant (IsRunning c.args.worker (Ok c.in-Ok.held)) c.in-Ok.ensures in
    let yes = c.is_parked_at.ensures.here c.if-not-is_parked_at.false in
    let game : c.args.parked.game ≡ c.self.inside.session.now = c.requires ∙ sym (ap (λ (b : Played). b.game) c.self.view_is) in
    subst (λ b. IsRefused b c.args.worker (IsOtherParked c.args.parked b.game) (Ask c.args.worker) OutOfMemory) c.self.view_is (ask_full (seen_as c.self.inside.session.now c.self.inside.jobs) c.self.invariant.lawful c.args.worker run.0 c.in-Ok.held.job c.in-Ok.held.step run.1 c.args.parked yes.0 yes.1 game yes.2)

pub returns-in-Ok-park-clause-next : goal.returns-in-Ok-park-clause-next
returns-in-Ok-park-clause-next c =
    let run = known c.self.inside.session.now c.self.inside.jobs c.self.inside.frame_store c.self.invariant (IsRunning c.args.worker (Ok c.in-Ok.held)) c.in-Ok.ensures in
    let yes = c.is_parked_at.ensures.here c.if-not-is_parked_at.false in
    rw (← c.self.view_is) (ap (state_in (seen_as c.self.inside.session.now c.self.inside.jobs)).phase yes.0 ∙ (run.1 ∙ ap (Runs c.args.worker) (sym yes.1)))
