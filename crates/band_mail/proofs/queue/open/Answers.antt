use Rattle.std.proofs.Common.{rules}
use Rattle.band_mail.proofs.Relays.{begins, forks}
use Rattle.band_mail.proofs.queue.open.Goals as goal

pub ruled-requires-clause-rule : goal.ruled-requires-clause-rule
ruled-requires-clause-rule g c = begins

pub another-takes-requires-clause-rule : goal.another-takes-requires-clause-rule
another-takes-requires-clause-rule g c = forks _ _ (search rules) (search rules)
