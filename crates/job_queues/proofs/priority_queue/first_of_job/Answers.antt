use Rattle.job_core.specs.Core.{same}
use Rattle.job_queues.proofs.Places.{first_place_found}
use Rattle.job_queues.proofs.priority_queue.first_of_job.Goals as goal

pub returns : goal.returns
returns c = rw c.position_of_job.ensures (first_place_found (same c.args.job) c.args.jobs.now)
