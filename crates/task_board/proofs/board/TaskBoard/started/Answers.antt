use Rattle.std.proofs.Common.{refl, subst, inl}
use Rattle.frame_params.specs.Tasks.{IsTaskAt}
use Rattle.task_board.specs.FrameStore.{FrameStoreOf}
use Rattle.task_board.specs.Boards.{Played}
use Rattle.task_board.proofs.BoardEvents.{task_there}
use Rattle.task_board.proofs.board.TaskBoard.started.Goals as goal

pub task-requires-clause-parts : goal.task-requires-clause-parts
task-requires-clause-parts c =
    let is = rw (← c.self.view_is) at c.requires.start in
    task_there c.self.inside.session.now c.self.inside.jobs c.self.inside.frame_store c.self.invariant c.args.job 0 (c.args.worker, inl (is.legal, refl))

pub returns-clause-task : goal.returns-clause-task
returns-clause-task c =
    let made = subst (λ (k : FrameStoreOf). IsTaskAt k.game c.args.job 0 c.in-Ok.task) c.self.invariant.frame_store_is c.in-Ok.ensures.task in
    subst (λ (b : Played). IsTaskAt b.game c.args.job 0 c.in-Ok.task) c.self.view_is made
