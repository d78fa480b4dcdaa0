use Rattle.std.proofs.Common.{◌≡◌}
use Rattle.run_printer.proofs.printer.Printer.show.Given as goal

abbrev pub invariant-loop : goal.invariant-loop
invariant-loop g l = (l.emits.parts ≡ l.initial.emits.parts) × (l.emits.amount ≡ l.initial.emits.amount)
