use Rattle.std.proofs.Common.{arith}
use Rattle.band_mail.proofs.AnyOrder.{in_order}
use Rattle.run_shared.proofs.shared.Shared.close.Goals as goal

pub close-left-requires-clause-putters : goal.close-left-requires-clause-putters
close-left-requires-clause-putters g c = in_order c.args.self.mail c.args.putters.items (omega (arith, c.requires.putters.0, c.args.putters.ok.0)) c.requires.putters.1
