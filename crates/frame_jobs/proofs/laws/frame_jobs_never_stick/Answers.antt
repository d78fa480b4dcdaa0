use Rattle.frame_jobs.proofs.Going.{goes_on}
use Rattle.frame_jobs.proofs.laws.frame_jobs_never_stick.Goals as goal

pub returns : goal.returns
returns c = goes_on
