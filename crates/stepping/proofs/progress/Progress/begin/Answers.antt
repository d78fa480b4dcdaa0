use Rattle.std.proofs.Common.{arith}
use Rattle.bt_nodes.specs.Trees.{plain_of}
use Rattle.bt_nodes.proofs.MemoryBounds.{length-bounds}
use Rattle.stepping.proofs.progress.Progress.begin.Goals as goal

pub numbers_of-requires : goal.numbers_of-requires
numbers_of-requires g c = let a = c.requires.same_length in let b = length-bounds (plain_of c.args.tree.now) in let d = c.size-nodes.ensures.value in omega (arith, a, b, d)
