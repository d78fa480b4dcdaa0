use Rattle.job_board.proofs.Ending.{not_stuck}
use Rattle.job_board.proofs.laws.a_stuck_board_enables_nothing.Goals as goal

pub returns : goal.returns
returns c = not_stuck
