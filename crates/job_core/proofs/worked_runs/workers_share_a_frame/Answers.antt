use Rattle.job_core.proofs.Worked.{shared_complete, shared_length}
use Rattle.job_core.proofs.worked_runs.workers_share_a_frame.Goals as goal

pub returns-clause-complete : goal.returns-clause-complete
returns-clause-complete c = shared_complete

pub returns-clause-least : goal.returns-clause-least
returns-clause-least c = shared_length
