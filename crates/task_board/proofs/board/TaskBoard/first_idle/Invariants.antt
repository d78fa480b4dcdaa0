use Rattle.task_board.specs.Given.{AllBusy}
use Rattle.task_board.proofs.board.TaskBoard.first_idle.Given as goal

abbrev pub invariant-workers : goal.invariant-workers
invariant-workers l = AllBusy l.self l.worker
