use Rattle.play_run.proofs.opening.open.Goals as goal

pub returns-clause-putters : goal.returns-clause-putters
returns-clause-putters g c = (c.in_ok-mail.ensures.putters.0, rw c.new-shared.ensures c.in_ok-mail.ensures.putters.1)
