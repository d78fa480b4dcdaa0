use Rattle.job_core.proofs.Before.{stopped_last}
use Rattle.job_core.proofs.order.a_stop_is_the_last_event.Goals as goal

pub returns-clause-any_time : goal.returns-clause-any_time
returns-clause-any_time c = λ s es r. (r.1, tt)

pub returns-clause-last : goal.returns-clause-last
returns-clause-last c = λ s es e m. stopped_last s es e m
