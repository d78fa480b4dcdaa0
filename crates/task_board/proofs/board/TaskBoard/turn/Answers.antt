use Rattle.std.proofs.Common.{suc, true, sym, ap, ◌∙◌, subst, inr}
use Rattle.std.specs.Prelude.{box_value}
use Rattle.job_core.specs.declared.names.JobName.TheVariants.{Logic}
use Rattle.job_core.specs.declared.names.Event.TheVariants.{Resume}
use Rattle.frame_state.specs.Names.{FrameOf, logic_of}
use Rattle.frame_state.specs.Logic.{IsRoomIn}
use Rattle.task_board.specs.FrameStore.{FrameStoreOf}
use Rattle.task_board.specs.Boards.{Played, state_in}
use Rattle.task_board.proofs.BoardEvents.{task_there, next_at, kept_after, happens, seen_as}
use Rattle.task_board.proofs.board.TaskBoard.turn.Goals as goal

pub ready-requires : goal.ready-requires
ready-requires c =
    let legal = rw (← c.self.view_is) at c.requires.legal in
    let spread = rw (← c.self.view_is) at c.requires.spread in
    (task_there c.self.inside.session.now c.self.inside.jobs c.self.inside.frame_store c.self.invariant (Logic c.args.frame) (suc spread.0) (c.args.worker, inr (legal, spread.1))).0

pub resume-requires : goal.resume-requires
resume-requires c = next_at c.self.inside.session.now c.self.inside.jobs c.self.inside.frame_store c.self.invariant c.args.worker c.args.fiber (Logic c.args.frame) c.args.place (rw (← c.self.view_is) at c.requires.legal) (rw (← c.self.view_is) at c.requires.holder) (rw (← c.self.view_is) at c.requires.place)

pub turn-requires-clause-game : goal.turn-requires-clause-game
turn-requires-clause-game c = ap (λ (p : FrameOf). p.game) c.in-Ok.ensures.start ∙ sym (ap (λ (k : FrameStoreOf). k.game) c.in-Ok.ensures.unchanged)

pub turn-requires-clause-room : goal.turn-requires-clause-room
turn-requires-clause-room c = subst (λ (p : FrameOf). IsRoomIn p (box_value c.in-Ok.room)) (sym c.in-Ok.ensures.start) c.in-Ok.ensures.room

pub turn-requires-clause-all : goal.turn-requires-clause-all
turn-requires-clause-all c =
    let legal = rw (← c.self.view_is) at c.requires.legal in
    let spread = rw (← c.self.view_is) at c.requires.spread in
    let all = (task_there c.self.inside.session.now c.self.inside.jobs c.self.inside.frame_store c.self.invariant (Logic c.args.frame) (suc spread.0) (c.args.worker, inr (legal, spread.1))).1 in
    rw (c.in-Ok.ensures.unchanged, c.in-Ok.ensures.start) all

pub invariant_of-self-in_default-resume : goal.invariant_of-self-in_default-resume
invariant_of-self-in_default-resume c = rw (c.in_default-resume.ensures.unchanged, c.keep_room.ensures, c.in-Ok.ensures.unchanged) c.self.invariant

pub invariant_of-self-2 : goal.invariant_of-self-2
invariant_of-self-2 c =
    let stores = rw c.in-Ok.ensures.unchanged at (c.turn.ensures.stored (state_in (seen_as c.self.inside.session.now c.self.inside.jobs)) c.args.worker) in
    kept_after c.self.inside.session.now c.self.inside.jobs c.self.inside.frame_store c.self.invariant (Resume c.args.worker (Logic c.args.frame)) (rw (← c.self.view_is) at c.requires.legal) c.resume.new.self c.in-Ok-resume.ensures.ok c.turn.new.self stores

pub returns-clause-happens : goal.returns-clause-happens
returns-clause-happens c =
    let legal = rw (← c.self.view_is) at c.requires.legal in
    rw (← c.self.view_is) (happens c.self.inside.session.now c.self.inside.jobs c.self.inside.frame_store c.self.invariant (Resume c.args.worker (Logic c.args.frame)) legal c.resume.new.self c.in-Ok-resume.ensures.ok)

pub returns-clause-task : goal.returns-clause-task
returns-clause-task c =
    let made = rw (c.in-Ok.ensures.unchanged, c.in-Ok.ensures.start) at c.turn.ensures.task in
    made ∙ ap (λ (k : FrameStoreOf). logic_of k.game c.args.frame true) c.self.invariant.frame_store_is ∙ ap (λ (b : Played). logic_of b.game c.args.frame true) c.self.view_is
