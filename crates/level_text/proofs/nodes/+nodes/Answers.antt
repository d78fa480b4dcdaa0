use Rattle.std.proofs.Common.{ap, ◌∙◌, sym, option_map, drop, ◌+◌, Some, arith}
use Rattle.bt_nodes.specs.Plain.{plain}
use Rattle.serde_json.specs.View.{view, items_view}
use denote.Param.Weighed.{at_most}
use Rattle.serde_json.specs.declared.value.Value.{size-Value}
use Rattle.level_text.specs.Nodes.{node_of, forest_in}
use Rattle.level_text.specs.Inner.{over_forest, over_child}
use Rattle.level_text.proofs.NodesBefore.{forest_before}
use Rattle.level_text.proofs.NodesRead.{read_more, read_none, read_all}
use Rattle.level_text.proofs.Items.{child_in-two}
use Rattle.level_text.proofs.nodes.+nodes.Goals as goal

pub list_of-values-preserved : goal.list_of-values-preserved
list_of-values-preserved t c =
    let l = c.values in
    ap (λ ns. option_map (forest_before ns) (forest_in (items_view (drop (l.value-index + 1) c.args.values.now)))) c.in_ok-push-in-Some.ensures.items
    ∙ read_more l.nodes.items c.in-Some.node c.args.values.now l.value-index c.value-item.result c.values-test.true
    (ap (λ v. node_of (view v)) (sym c.value-item.is) ∙ sym c.in_ok-node.ensures ∙ ap (option_map plain) c.in-Some.is) l.invariant

pub list_of-returns : goal.list_of-returns
list_of-returns t c =
    ap Some c.over.ensures
    ∙ ap (option_map (over_forest c.args.lister)) (read_all c.values.nodes.items c.args.values.now c.values.value-index c.values-test.false c.values.invariant)

pub decorator_of-returns-in-len2-up : goal.decorator_of-returns-in-len2-up
decorator_of-returns-in-len2-up t c = sym (ap (option_map (over_child c.args.decorator)) (child_in-two c.args.values.now c.in-len2-up.len_at_least))

pub list_of-node_of-requires : goal.list_of-node_of-requires
list_of-node_of-requires t c =
    let within = at_most size-Value c.args.values.now c.values.value-index c.value-item.result c.values-test.true in
    (omega (arith, within, ap size-Value c.value-item.is), tt)

pub list_of-returns-in-None : goal.list_of-returns-in-None
list_of-returns-in-None t c =
    let l = c.values in
    ap (option_map (over_forest c.args.lister))
    (read_none l.nodes.items c.args.values.now l.value-index c.value-item.result c.values-test.true
    (ap (λ v. node_of (view v)) (sym c.value-item.is) ∙ sym c.in_ok-node.ensures ∙ ap (option_map plain) c.in-None.is) l.invariant)
