use Rattle.std.proofs.Common.{ap, sym, ◌∙◌}
use Rattle.bt_nodes.specs.Plain.{plain, none, tree}
use Rattle.bt_nodes.proofs.Views.{plain-Not}
use Rattle.bt_tick.specs.Children.{children_of}
use Rattle.bt_tick.specs.Machine.{whole_of}
use Rattle.bt_tick.proofs.Trees.{sits_child}
use Rattle.bt_tick.proofs.machine.Machine.at_once.Goals as goal

pub leaf_at_once-requires-clause-sits : goal.leaf_at_once-requires-clause-sits
leaf_at_once-requires-clause-sits g c =
    let only = ap children_of (ap plain c.in-Not.is ∙ plain-Not c.in-Not.child) ∙ ap (λ n. tree (plain n) none) (sym c.deref.ensures) in
    sits_child (whole_of c.args.self.now) (plain c.args.node.now) c.args.number 0 (plain c.deref.result.now) none only c.requires.sits
