use Rattle.std.proofs.Common.{vec_len}
use Rattle.run_printer.proofs.Taking.{taken}
use Rattle.run_printer.proofs.frame_bands.FrameBands.take_next.Goals as goal

pub loop-number-preserved : goal.loop-number-preserved
loop-number-preserved g c =
    taken g.L.RunLedger.game c.args.frame (vec_len c.args.into.now) c.loop-number.number c.args.bands c.args.self.now c.loop-number.into.items c.push.new.self.items
    c.loop-number.self c.take_band.new.self c.in-Some.band c.loop-number.invariant c.loop-number-test.true c.take_band.ensures.emptied c.in_ok-push.ensures.items c.in-Some.ensures.value
