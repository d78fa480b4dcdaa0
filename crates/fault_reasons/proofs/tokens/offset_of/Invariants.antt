use Rattle.std.proofs.Common.{length}
use Rattle.fault_reasons.proofs.tokens.offset_of.Given as goal

abbrev pub decreases-loop-token : goal.decreases-loop-token
decreases-loop-token l = length l.reader
