use Rattle.job_scheduler.proofs.Entries.{busy_worker, busy_fiber, busy_taken}
use Rattle.job_scheduler.proofs.scheduler.Scheduler.end.Goals as goal

pub fiber_of-fiber-requires : goal.fiber_of-fiber-requires
fiber_of-fiber-requires c = busy_worker c.args.self.now.seats c.args.worker c.requires.runs

pub leave-requires-clause-taken : goal.leave-requires-clause-taken
leave-requires-clause-taken c = rw (c.lower.ensures, c.fiber_of-fiber.ensures) (busy_taken c.args.self.now.seats c.args.worker c.requires.runs c.requires.table)

pub leave-requires-clause-worker : goal.leave-requires-clause-worker
leave-requires-clause-worker c = rw c.lower.ensures (busy_worker c.args.self.now.seats c.args.worker c.requires.runs)

pub leave-requires-clause-fiber : goal.leave-requires-clause-fiber
leave-requires-clause-fiber c = rw (c.lower.ensures, c.fiber_of-fiber.ensures) (busy_fiber c.args.self.now.seats c.args.worker c.requires.runs)
