use Rattle.std.proofs.Common.{◌∙◌}
use Rattle.play_run.proofs.Putting.{none_at_first}
use Rattle.play_run.proofs.opening.open_mail.Goals as goal

pub returns-clause-putters : goal.returns-clause-putters
returns-clause-putters g c = (c.in_ok-mail.ensures.putters.0 ∙ c.workers.ensures.value, c.in_ok-mail.ensures.putters.1)

pub returns-clause-nothing_put : goal.returns-clause-nothing_put
returns-clause-nothing_put g c = none_at_first c.in_ok-mail.putters.items c.workers.result c.in_ok-mail.ensures.nothing_put
