use Rattle.std.proofs.Common.{◌≡◌, ◌-◌, take, drop, length, arith, length-drop}
use Rattle.std.proofs.Math.Seq.{take-add}
use Rattle.std.proofs.lemmas.Grind.{common_steps}
use Rattle.std.proofs.KnownBytes.{Appends-trans}
use Rattle.byte_streams.proofs.writing.write_whole.Goals as goal

pub writes-preserved : goal.writes-preserved
writes-preserved g c =
    let done = c.writes.written in
    let bytes = c.args.bytes.now in
    let whole : take (length bytes - done) (drop done bytes) ≡ drop done bytes = grind (arith, common_steps) in (
      omega (arith, c.in-Ok.ensures.bound, length-drop done bytes),
      rw (take-add done c.in-Ok.taken bytes) (rw whole at (Appends-trans _ _ _ _ _ c.writes.invariant.1 c.in-Ok.ensures.bytes)),
    )
