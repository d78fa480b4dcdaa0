use Rattle.job_core.proofs.Worked.{drawn_small, drawn_large, draw_waits, logic_starts, draw_starts_then}
use Rattle.job_core.proofs.worked_runs.a_draw_waits_for_a_small_fiber.Goals as goal

pub returns-clause-no_small : goal.returns-clause-no_small
returns-clause-no_small c = drawn_small

pub returns-clause-two_large : goal.returns-clause-two_large
returns-clause-two_large c = drawn_large

pub returns-clause-waits : goal.returns-clause-waits
returns-clause-waits c = draw_waits

pub returns-clause-logic : goal.returns-clause-logic
returns-clause-logic c = logic_starts

pub returns-clause-starts_on_one_more : goal.returns-clause-starts_on_one_more
returns-clause-starts_on_one_more c = draw_starts_then
