use Rattle.std.proofs.Common.{◌==◌}
use Rattle.job_queues.proofs.Places.{first_place_found}
use Rattle.job_queues.proofs.priority_queue.first_of_fiber.Goals as goal

pub returns : goal.returns
returns c = rw c.position_of_fiber.ensures (first_place_found (λ other. c.args.fiber == other) c.args.fibers.now)
