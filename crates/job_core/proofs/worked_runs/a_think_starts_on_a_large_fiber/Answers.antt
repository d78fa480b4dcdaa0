use Rattle.job_core.proofs.Worked.{spread_large, think_starts, asked_large, asked_small, think_waits, think_starts_then}
use Rattle.job_core.proofs.worked_runs.a_think_starts_on_a_large_fiber.Goals as goal

pub returns-clause-one_large : goal.returns-clause-one_large
returns-clause-one_large c = spread_large

pub returns-clause-starts : goal.returns-clause-starts
returns-clause-starts c = think_starts

pub returns-clause-no_large : goal.returns-clause-no_large
returns-clause-no_large c = asked_large

pub returns-clause-one_small : goal.returns-clause-one_small
returns-clause-one_small c = asked_small

pub returns-clause-waits : goal.returns-clause-waits
returns-clause-waits c = think_waits

pub returns-clause-starts_on_one_more : goal.returns-clause-starts_on_one_more
returns-clause-starts_on_one_more c = think_starts_then
