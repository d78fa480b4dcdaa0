use Rattle.job_scheduler.proofs.scheduler.Scheduler.find_ready.Goals as goal

pub returns : goal.returns
returns c = rw (← c.self.view_is) c.find_ready.ensures
