use Rattle.band_mail.proofs.Relays.{sends}
use Rattle.band_mail.proofs.queue.put.Goals as goal

pub push_as-requires-clause-rule : goal.push_as-requires-clause-rule
push_as-requires-clause-rule g c = (sends _ _ _ _ c.requires.may, λ items views h at. tt)
