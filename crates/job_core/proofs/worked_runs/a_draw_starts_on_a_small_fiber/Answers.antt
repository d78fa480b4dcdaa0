use Rattle.job_core.proofs.Worked.{begun_small, begun_large, draw_starts, path_starts, second_complete, second_length}
use Rattle.job_core.proofs.worked_runs.a_draw_starts_on_a_small_fiber.Goals as goal

pub returns-clause-one_small : goal.returns-clause-one_small
returns-clause-one_small c = begun_small

pub returns-clause-no_large : goal.returns-clause-no_large
returns-clause-no_large c = begun_large

pub returns-clause-draw : goal.returns-clause-draw
returns-clause-draw c = draw_starts

pub returns-clause-path : goal.returns-clause-path
returns-clause-path c = path_starts

pub returns-clause-complete : goal.returns-clause-complete
returns-clause-complete c = second_complete

pub returns-clause-least : goal.returns-clause-least
returns-clause-least c = second_length
