use Rattle.std.proofs.Common.{arith}
use Rattle.run_printer.proofs.Drawn.{none_first}
use Rattle.run_printer.proofs.printer.Printer.gather.Goals as goal

pub loop-init : goal.loop-init
loop-init g c = (c.requires, omega (arith, c.clear.ensures.len), λ game own. none_first game c.args.frame c.clear.new.self.items c.clear.ensures.items)
