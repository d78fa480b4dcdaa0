use Rattle.job_core.proofs.Draws.{draws_ended}
use Rattle.job_core.proofs.laws.draws_are_ended_once_each.Goals as goal

pub returns : goal.returns
returns c = λ s log complete. draws_ended s log complete
