use Rattle.job_queues.specs.Lanes.{may_start}
use Rattle.job_queues.proofs.Places.{first_place_found}
use Rattle.job_queues.proofs.priority_queue.first_to_start.Goals as goal

pub returns-clause-first : goal.returns-clause-first
returns-clause-first c = rw c.position_to_start.ensures (first_place_found (may_start c.args.free) c.args.jobs.now)
