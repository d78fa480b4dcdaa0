-- A tree has a node, and so a depth; a list of trees has no more roots than nodes.
use Rattle.std.proofs.Common.{◌≤◌, arith}
use Rattle.bt_nodes.specs.Plain.{Plain, Composite, Forest, none, tree}
use Rattle.bt_nodes.specs.Sizes.{size, sizes, depth, count}

pub one-le-size : (p : Plain) → 1 ≤ size p
one-le-size (Composite kind children) = omega arith
one-le-size _ = omega arith

pub one-le-depth : (p : Plain) → 1 ≤ depth p
one-le-depth (Composite kind children) = omega arith
one-le-depth _ = omega arith

pub few_children : (cs : Forest) → count cs ≤ sizes cs
few_children none = omega arith
few_children (tree c cs) = omega (arith, few_children cs, one-le-size c)
