use Rattle.job_board.proofs.board.Board.is_done.Goals as goal

pub returns : goal.returns
returns c = rw (← c.self.view_is) c.is_done.ensures
