use Rattle.std.proofs.Common.{ap}
use Rattle.job_board.specs.Playing.{Playing}
use Rattle.job_board.proofs.Staying.{shown_stays}
use Rattle.job_board.proofs.Applying.{playing_as}
use Rattle.job_board.proofs.Owning.{own_shown}
use Rattle.job_board.proofs.board.Board.emit.Goals as goal

pub invariant_of-self : goal.invariant_of-self
invariant_of-self c = shown_stays c.self.inside.run c.self.inside.works.places.items c.self.invariant c.emit.new.self c.emit.result c.emit.ensures.ok c.emit.ensures.unchanged

pub returns-clause-ok : goal.returns-clause-ok
returns-clause-ok c = rw (← c.self.view_is) c.emit.ensures.ok

pub returns-clause-own : goal.returns-clause-own
returns-clause-own c = own_shown c.self.inside.run c.self.inside.works.places.items c.self.invariant c.args.self.now (playing_as c.emit.new.self c.self.inside.works.places.items) c.self.view_is c.emit.result (rw (← c.self.view_is) c.emit.ensures.ok) (ap (λ (p : Playing). p.worked) c.self.view_is)

pub returns-clause-refused : goal.returns-clause-refused
returns-clause-refused c = rw (← c.self.view_is) c.emit.ensures.refused
