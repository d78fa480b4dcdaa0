use Rattle.job_board.proofs.board.Board.may_show.Goals as goal

pub returns : goal.returns
returns c = rw (← c.self.view_is) c.may_show.ensures
