use Rattle.std.proofs.Common.{◌≡◌}
use Rattle.run_printer.proofs.printer.Printer.take_bands.Given as goal

abbrev pub invariant-loop : goal.invariant-loop
invariant-loop g l = (l.self.inbox.taker.mail ≡ l.shared.mail) × (l.self.next ≡ l.initial.self.next)
