use Rattle.std.proofs.Common.{sym, subst, arith}
use Rattle.band_mail.specs.Mails.{AreAllPuttersOf}
use Rattle.band_mail.proofs.AnyOrder.{in_order, backwards}
use Rattle.play_tests.proofs.tests.mail_delivery.close_backwards.Goals as goal

pub close-requires-clause-putters : goal.close-requires-clause-putters
close-requires-clause-putters g c =
    let mail = c.args.mail in
    let putters = c.args.putters.items in
    subst (λ l. AreAllPuttersOf mail l) (sym c.reverse.ensures.items)
    (backwards mail putters (in_order mail putters (omega (arith, c.requires.putters.0, c.args.putters.ok.0)) c.requires.putters.1))
