use Rattle.std.proofs.Common.{◌≡◌, sym, subst, rules}
use Rattle.bt_nodes.specs.Bounds.{Fits, zero_memory}
use Rattle.bt_nodes.specs.Trees.{plain_of}
use Rattle.bt_tick.proofs.Zero.{zero_fits}
use Rattle.bt_tick.proofs.memory.Memory.zero.Goals as goal

pub returns-clause-fits : goal.returns-clause-fits
returns-clause-fits g c =
    let e : c.in_ok-vec.field-0.items ≡ zero_memory (plain_of c.args.tree.now) = search rules in
    subst (Fits (plain_of c.args.tree.now)) (sym e) (zero_fits c.args.tree.now)
