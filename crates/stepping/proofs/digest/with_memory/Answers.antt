use Rattle.std.proofs.Common.{◌∙◌, sym}
use Rattle.stepping.specs.Digest.{fnv_all, bytes, memory_bytes}
use Rattle.stepping.proofs.Fnv.{each_in}
use Rattle.stepping.proofs.Memories.{number_at}
use Rattle.stepping.proofs.digest.with_memory.Goals as goal

pub nodes-preserved : goal.nodes-preserved
nodes-preserved c =
    let at = number_at c.args.memory.now _ c.nodes.node c.in-Some.number c.requires c.nodes-test.true (sym c.at.ensures ∙ c.in-Some.is) in
    each_in (bytes 2) c.args.memory.now c.nodes.node c.nodes.so_far (fnv_all c.args.hash (memory_bytes c.args.memory.now)) c.in-Some.number c.with_two-so_far.result at.0 at.1 c.with_two-so_far.ensures c.nodes.invariant
