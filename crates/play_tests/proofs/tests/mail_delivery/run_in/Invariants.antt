use Rattle.std.proofs.Common.{◌≡◌}
use Rattle.play_tests.proofs.tests.mail_delivery.run_in.Given as goal

abbrev pub invariant-loop : goal.invariant-loop
invariant-loop g l = l.taker.mail ≡ l.mail
