use Rattle.std.proofs.Common.{◌∙◌, sym, subst, None}
use Rattle.std.proofs.lemmas.List.{length-replicate}
use Rattle.bt_nodes.specs.Sizes.{size}
use Rattle.bt_nodes.specs.Trees.{plain_of}
use Rattle.bt_nodes.proofs.MemoryBounds.{length-bounds}
use Rattle.stepping.specs.Observing.{HasRoom}
use Rattle.stepping.proofs.told.node_answers.Goals as goal

pub observe-requires-clause-room : goal.observe-requires-clause-room
observe-requires-clause-room c =
    let w = plain_of c.args.tree.now in
    subst (HasRoom w) (sym (c.in_ok-progress.ensures _))
    (record { numbers = c.requires.fits.same_length ∙ length-bounds w; told = length-replicate (size w) None })
