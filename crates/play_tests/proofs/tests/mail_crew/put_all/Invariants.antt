use Rattle.std.proofs.Common.{◌≡◌}
use Rattle.band_mail.specs.Mails.{IsPutterOf}
use Rattle.play_tests.proofs.tests.mail_crew.put_all.Given as goal

abbrev pub invariant-loop-band : goal.invariant-loop-band
invariant-loop-band g l = IsPutterOf l.mail l.putter × (l.putter.worker ≡ l.fn.putter.worker)

abbrev pub invariant-loop : goal.invariant-loop
invariant-loop g l = IsPutterOf l.mail l.putter × (l.putter.worker ≡ l.fn.putter.worker)
