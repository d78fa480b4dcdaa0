use Rattle.std.proofs.Common.{take, arith}
use Rattle.byte_streams.proofs.Consumed.{reads_on, ends_here}
use Rattle.byte_streams.proofs.whole_reading.read_whole.Goals as goal

pub reads-preserved : goal.reads-preserved
reads-preserved g c =
    rw (c.in_ok-extend_from_slice-in-Ok.ensures.items) (reads_on _ _ _ c.reads.bytes.items (take c.in-Ok.count c.read.new.buf) c.reads.invariant c.in-Ok.ensures.bytes.0)

pub returns-in-Ok-eq0 : goal.returns-in-Ok-eq0
returns-in-Ok-eq0 g c =
    ends_here _ (g.R.Read.remaining c.reads.input) (g.R.Read.remaining c.read.new.self) c.reads.bytes.items c.read.new.buf c.in-Ok-eq0.field-0 c.reads.invariant c.in-Ok-eq0.ensures.bytes.0 c.in-Ok-eq0.field-0-test (c.in-Ok-eq0.ensures.bytes.1 c.in-Ok-eq0.field-0-test (grind arith))
