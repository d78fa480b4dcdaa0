use Rattle.job_core.proofs.Migration.{migrates}
use Rattle.job_core.proofs.laws.older_lists_are_legal.Goals as goal

pub returns : goal.returns
returns c = migrates
