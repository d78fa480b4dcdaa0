use Rattle.band_mail.proofs.Relays.{gets}
use Rattle.band_mail.proofs.queue.take.Goals as goal

pub pop_as-requires-clause-rule : goal.pop_as-requires-clause-rule
pop_as-requires-clause-rule g c = (gets _ _ c.requires.may, λ items views h at. tt)
