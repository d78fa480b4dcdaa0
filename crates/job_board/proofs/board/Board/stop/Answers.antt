use Rattle.job_board.proofs.Staying.{stopped_stays}
use Rattle.job_board.proofs.board.Board.stop.Goals as goal

pub invariant_of-self : goal.invariant_of-self
invariant_of-self c = stopped_stays c.self.inside.run c.self.inside.works.places.items c.self.invariant c.stop.new.self c.stop.ensures

pub returns-clause-run : goal.returns-clause-run
returns-clause-run c = rw (← c.self.view_is) c.stop.ensures
