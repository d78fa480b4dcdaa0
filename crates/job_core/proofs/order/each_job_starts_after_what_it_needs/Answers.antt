use Rattle.job_core.specs.Core.{state}
use Rattle.job_core.proofs.Once.{shape_at}
use Rattle.job_core.proofs.Before.{logic_after, think_after, path_after, draw_after}
use Rattle.job_core.proofs.order.each_job_starts_after_what_it_needs.Goals as goal

pub returns-clause-logic : goal.returns-clause-logic
returns-clause-logic c = λ s es w f l p m. logic_after s (state s es) (shape_at s es l) w f p m.1

pub returns-clause-think : goal.returns-clause-think
returns-clause-think c = λ s es w f a l m. think_after s (state s es) (shape_at s es l) w f a m.1

pub returns-clause-path : goal.returns-clause-path
returns-clause-path c = λ s es w f a i l m. path_after s (state s es) (shape_at s es l) w f a i m.1

pub returns-clause-draw : goal.returns-clause-draw
returns-clause-draw c = λ s es w f b l m. draw_after s (state s es) (shape_at s es l) w f b m.1
