use Rattle.frame_jobs_laws.proofs.Bound.{bounded}
use Rattle.frame_jobs_laws.proofs.laws.own_runs_are_bounded.Goals as goal

pub returns : goal.returns
returns c = bounded
