use Rattle.job_board.proofs.Ending.{refused_for_memory}
use Rattle.job_board.proofs.laws.what_is_enabled_is_applied.Goals as goal

pub returns : goal.returns
returns c = refused_for_memory
