use Rattle.job_board.proofs.board.Board.begin.Goals as goal

pub returns-then-spreads-clause-ok : goal.returns-then-spreads-clause-ok
returns-then-spreads-clause-ok c = rw c.if-spreads.true c.spread.ensures.ok

pub returns-then-spreads-clause-refused : goal.returns-then-spreads-clause-refused
returns-then-spreads-clause-refused c = rw c.if-spreads.true c.spread.ensures.refused

pub returns-else-spreads-clause-ok : goal.returns-else-spreads-clause-ok
returns-else-spreads-clause-ok c = rw c.if-spreads.false c.hold.ensures.ok

pub returns-else-spreads-clause-refused : goal.returns-else-spreads-clause-refused
returns-else-spreads-clause-refused c = rw c.if-spreads.false c.hold.ensures.refused
