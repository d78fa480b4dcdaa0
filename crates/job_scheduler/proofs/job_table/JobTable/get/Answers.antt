use Rattle.job_scheduler.proofs.Fronts.{entry_there, entry_past}
use Rattle.job_scheduler.proofs.job_table.JobTable.get.Goals as goal

pub returns-in-Some : goal.returns-in-Some
returns-in-Some c = rw (← c.self.view_is) (entry_there c.self.inside.fibers c.self.inside.all c.self.invariant.1 c.args.fiber c.in-Some.entry.now c.in-Some.ensures.lookup.3.0 c.in-Some.ensures.lookup.1)

pub returns-in-None : goal.returns-in-None
returns-in-None c = rw (← c.self.view_is) (entry_past c.self.inside.fibers c.self.inside.all c.self.invariant.1 c.args.fiber c.in-None.ensures.lookup.3)
