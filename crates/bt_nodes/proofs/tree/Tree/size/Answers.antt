use Rattle.std.proofs.Common.{arith}
use Rattle.bt_nodes.specs.Plain.{plain}
use Rattle.bt_nodes.proofs.AtLeastOne.{one-le-size}
use Rattle.bt_nodes.proofs.tree.Tree.size.Goals as goal

pub returns-clause-least : goal.returns-clause-least
returns-clause-least g c = omega (arith, one-le-size (plain c.args.self.now.root), c.args.self.now.counted)
