use Rattle.std.proofs.Common.{ap, not, refl, sym, ◌∙◌}
use Rattle.bt_nodes.specs.Limits.{keeps_child}
use Rattle.bt_nodes.proofs.Forests.{has_tree-plains}
use Rattle.bt_nodes.proofs.Views.{listing}
use Rattle.bt_nodes.proofs.node.Node.keeps_child.Goals as goal

pub returns-in-Seq : goal.returns-in-Seq
returns-in-Seq g c =
    let children = c.in-Seq.children in
    ap not c.is_empty.ensures
    ∙ has_tree-plains children.items children.len children.ok.0
    ∙ sym (listing keeps_child c.args.self.now children _ refl refl (λ m. refl) refl refl c.in-Seq.is)
