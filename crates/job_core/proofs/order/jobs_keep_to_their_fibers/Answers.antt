use Rattle.job_core.proofs.Before.{fibers_kept}
use Rattle.job_core.proofs.order.jobs_keep_to_their_fibers.Goals as goal

pub returns : goal.returns
returns c = fibers_kept
