use Rattle.std.proofs.Common.{subst}
use Rattle.frame_params.specs.Tasks.{IsTaskAt}
use Rattle.task_board.specs.FrameStore.{FrameStoreOf}
use Rattle.task_board.proofs.BoardEvents.{task_there}
use Rattle.task_board.proofs.board.TaskBoard.task_of.Goals as goal

pub task-requires-clause-parts : goal.task-requires-clause-parts
task-requires-clause-parts c = task_there c.self.inside.session.now c.self.inside.jobs c.self.inside.frame_store c.self.invariant c.args.job c.args.step (rw (← c.self.view_is) at c.requires)

pub returns-in-Ok : goal.returns-in-Ok
returns-in-Ok c = rw (← c.self.view_is) (subst (λ (k : FrameStoreOf). IsTaskAt k.game c.args.job c.args.step c.in-Ok.task) c.self.invariant.frame_store_is c.in-Ok.ensures.task)
