use Rattle.std.proofs.Common.{sym, ap, ◌∙◌}
use Rattle.job_core.specs.declared.names.Event.TheVariants.{Finish}
use Rattle.task_board.specs.Boards.{Played, setup_in, state_in}
use Rattle.task_board.specs.FrameStore.{FrameStoreOf}
use Rattle.task_board.specs.Dones.{job_done}
use Rattle.task_board.proofs.PlacesOfResults.{before_last, wanted}
use Rattle.task_board.proofs.BoardEvents.{job_running, there_for, next, kept_after, happens, seen_as}
use Rattle.task_board.proofs.board.TaskBoard.end.Goals as goal

pub next_of-requires : goal.next_of-requires
next_of-requires c =
    let legal = rw (← c.self.view_is) at c.requires.legal in
    let b = seen_as c.self.inside.session.now c.self.inside.jobs in
    before_last (setup_in b) c.args.done c.self.invariant.within.most_frames (job_running b c.self.invariant.lawful (job_done c.args.done) c.args.worker legal.1.0 legal.1.1)

pub finish-requires : goal.finish-requires
finish-requires c = rw (c.name.ensures, c.next_of.ensures.done) (next c.self.inside.session.now c.self.inside.jobs c.self.inside.frame_store c.self.invariant (Finish c.args.worker (job_done c.args.done)) (rw (← c.self.view_is) at c.requires.legal))

pub keep-requires-clause-game : goal.keep-requires-clause-game
keep-requires-clause-game c = rw c.next_of.ensures.done (c.requires.game ∙ (sym (ap (λ (b : Played). b.game) c.self.view_is) ∙ sym (ap (λ (k : FrameStoreOf). k.game) c.self.invariant.frame_store_is)))

pub keep-requires-clause-wanted : goal.keep-requires-clause-wanted
keep-requires-clause-wanted c =
    let legal = rw (← c.self.view_is) at c.requires.legal in
    rw c.next_of.ensures.done (wanted c.self.inside.frame_store (state_in (seen_as c.self.inside.session.now c.self.inside.jobs)) c.args.worker c.args.done (there_for c.self.inside.session.now c.self.inside.jobs c.self.inside.frame_store c.self.invariant (Finish c.args.worker (job_done c.args.done)) legal))

pub invariant_of-self-2 : goal.invariant_of-self-2
invariant_of-self-2 c =
    let legal = rw (← c.self.view_is) at c.requires.legal in
    let done = rw (c.name.ensures, c.next_of.ensures.done) at c.in-Ok-finish.ensures.ok in
    let stores = rw c.next_of.ensures.done at (c.keep.ensures (state_in (seen_as c.self.inside.session.now c.self.inside.jobs)) c.args.worker) in
    kept_after c.self.inside.session.now c.self.inside.jobs c.self.inside.frame_store c.self.invariant (Finish c.args.worker (job_done c.args.done)) legal c.finish.new.self done c.keep.new.self stores

pub returns-clause-ok : goal.returns-clause-ok
returns-clause-ok c =
    let legal = rw (← c.self.view_is) at c.requires.legal in
    let done = rw (c.name.ensures, c.next_of.ensures.done) at c.in-Ok-finish.ensures.ok in
    rw (← c.self.view_is) (happens c.self.inside.session.now c.self.inside.jobs c.self.inside.frame_store c.self.invariant (Finish c.args.worker (job_done c.args.done)) legal c.finish.new.self done)

pub invariant_of-self : goal.invariant_of-self
invariant_of-self c = rw c.in_default-finish.ensures.unchanged c.self.invariant
