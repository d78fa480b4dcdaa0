use Rattle.byte_streams.proofs.Parts.{first_bytes}
use Rattle.command_line.proofs.files.put.Goals as goal

pub returns-in-Err-clause-err : goal.returns-in-Err-clause-err
returns-in-Err-clause-err g c =
    first_bytes (g.W.Write.contents c.args.out.now) (g.W.Write.contents c.write_whole.new.out) c.args.bytes.now c.in-Err.field-0.written c.in-Err.ensures.err
