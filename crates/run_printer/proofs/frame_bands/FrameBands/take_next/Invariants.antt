use Rattle.std.proofs.Common.{vec_items, vec_len}
use Rattle.run_printer.proofs.Taking.{IsTaking}
use Rattle.run_printer.proofs.frame_bands.FrameBands.take_next.Given as goal

abbrev pub invariant-loop-number : goal.invariant-loop-number
invariant-loop-number g l = IsTaking g.L.RunLedger.game l.frame (vec_len l.initial.into) l.number l.bands l.fn.self (vec_items l.into) l.self
