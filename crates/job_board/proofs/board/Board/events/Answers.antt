use Rattle.job_board.proofs.board.Board.events.Goals as goal

pub returns-clause-lawful : goal.returns-clause-lawful
returns-clause-lawful c = rw (← c.self.view_is) c.events.ensures.lawful
