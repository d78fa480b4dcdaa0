use Rattle.job_board.proofs.Staying.{take_stays}
use Rattle.job_board.proofs.board.Board.take.Goals as goal

pub invariant_of-self : goal.invariant_of-self
invariant_of-self c = take_stays c.self.inside.run c.self.inside.works.places.items c.self.invariant c.take.new.self c.args.worker c.take.result c.take.ensures.ok c.take.ensures.unchanged

pub returns-clause-ok : goal.returns-clause-ok
returns-clause-ok c = rw (← c.self.view_is) c.take.ensures.ok

pub returns-clause-refused : goal.returns-clause-refused
returns-clause-refused c = rw (← c.self.view_is) c.take.ensures.refused
