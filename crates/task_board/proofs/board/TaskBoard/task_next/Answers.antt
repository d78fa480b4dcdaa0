use Rattle.std.proofs.Common.{subst}
use Rattle.task_board.specs.Found.{IsFound}
use Rattle.task_board.proofs.board.TaskBoard.task_next.Goals as goal

pub started-requires-clause-start : goal.started-requires-clause-start
started-requires-clause-start c = subst (IsFound c.args.self.now c.args.worker) c.in-Start.is c.requires.found
