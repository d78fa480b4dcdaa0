use Rattle.job_board.proofs.Ending.{ends}
use Rattle.job_board.proofs.laws.what_is_driven_ends_done.Goals as goal

pub returns : goal.returns
returns c = ends
