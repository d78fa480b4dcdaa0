use Rattle.job_core.proofs.Keeping.{apart}
use Rattle.job_core.proofs.order.workers_run_one_job_each.Goals as goal

pub returns-clause-one : goal.returns-clause-one
returns-clause-one c = λ s es i j w k n l. (apart s es l).one i j w k n

pub returns-clause-below : goal.returns-clause-below
returns-clause-below c = λ s es j w k l. (apart s es l).below j w k
