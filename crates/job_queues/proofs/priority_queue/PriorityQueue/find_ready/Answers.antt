use Rattle.std.proofs.Common.{◌==◌, subst}
use Rattle.job_queues.specs.Places.{IsFirstPlace}
use Rattle.job_queues.proofs.priority_queue.PriorityQueue.find_ready.Goals as goal

pub returns : goal.returns
returns c = subst (λ fibers. IsFirstPlace (λ other. c.args.fiber == other) fibers c.first_of_fiber.result) c.waiting.ensures c.first_of_fiber.ensures
