use Rattle.std.proofs.Common.{◌≡◌, ap, arith, sym, ◌∙◌}
use Rattle.bt_nodes.specs.Plain.{plain, plains}
use Rattle.bt_nodes.specs.Sizes.{count}
use Rattle.bt_nodes.specs.Limits.{is_threshold, keeps_threshold}
use Rattle.bt_nodes.proofs.Forests.{count-plains}
use Rattle.bt_nodes.proofs.Views.{plain-Par}
use Rattle.bt_nodes.proofs.node.Node.keeps_threshold.Goals as goal

pub returns-in-Par : goal.returns-in-Par
returns-in-Par g c =
    let children = c.in-Par.children in
    let threshold = c.in-Par.threshold in
    let counted : c.len.result ≡ count (plains children.items) = omega (arith, count-plains children.items, children.ok.0) in
    c.is_threshold.ensures
    ∙ ap (is_threshold threshold) counted
    ∙ sym (ap keeps_threshold (ap plain c.in-Par.is ∙ plain-Par threshold children))
