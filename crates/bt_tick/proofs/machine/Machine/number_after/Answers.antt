use Rattle.std.proofs.Common.{◌+◌, ap, ◌∙◌}
use Rattle.bt_nodes.specs.Trees.{plain_of}
use Rattle.bt_tick.proofs.Trees.{size_at}
use Rattle.bt_tick.proofs.machine.Machine.number_after.Goals as goal

pub returns : goal.returns
returns g c p sits = ap (λ n. c.args.number + n) (c.size_at.ensures.value ∙ size_at (plain_of c.args.self.now.tree.now) p c.args.number sits)
