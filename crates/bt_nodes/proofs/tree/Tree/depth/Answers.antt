use Rattle.std.proofs.Common.{arith}
use Rattle.bt_nodes.specs.Plain.{plain}
use Rattle.bt_nodes.proofs.AtLeastOne.{one-le-depth}
use Rattle.bt_nodes.proofs.tree.Tree.depth.Goals as goal

pub returns-clause-least : goal.returns-clause-least
returns-clause-least g c = omega (arith, one-le-depth (plain c.args.self.now.root), c.args.self.now.measured)
