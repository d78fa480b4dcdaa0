use Rattle.std.proofs.Common.{subst}
use Rattle.task_board.specs.Boards.{Played, IsStopped}
use Rattle.run_shared.proofs.board.SharedBoard.stop.Goals as goal

pub returns : goal.returns
returns g c = subst (λ (b : Played). IsStopped b c.stop.new.self) c.self.view_is c.stop.ensures
