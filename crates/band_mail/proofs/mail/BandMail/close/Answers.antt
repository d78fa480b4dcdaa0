use Rattle.band_mail.proofs.mail.BandMail.close.Goals as goal

pub drain_all-requires-clause-putters : goal.drain_all-requires-clause-putters
drain_all-requires-clause-putters g c = rw c.self.view_is c.requires.putters
