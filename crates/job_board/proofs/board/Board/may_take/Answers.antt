use Rattle.job_board.proofs.board.Board.may_take.Goals as goal

pub returns-clause-test : goal.returns-clause-test
returns-clause-test c = rw (← c.self.view_is) c.may_take.ensures.test

pub returns-clause-nobody : goal.returns-clause-nobody
returns-clause-nobody c = rw (← c.self.view_is) c.may_take.ensures.nobody
