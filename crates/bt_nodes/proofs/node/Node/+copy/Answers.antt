use Rattle.std.proofs.Common.{Some, ap, arith, sym, ◌∙◌, map}
use Rattle.bt_nodes.specs.Plain.{plain}
use Rattle.bt_nodes.proofs.Forests.{copied_more, copied_all}
use Rattle.bt_nodes.proofs.Alike.{item_smaller}
use Rattle.bt_nodes.proofs.node.Node.+copy.Goals as goal

pub copies_in-nodes-preserved : goal.copies_in-nodes-preserved
copies_in-nodes-preserved g t c =
    ap (map plain) c.in_ok-push.ensures.items
    ∙ copied_more c.nodes.copies.items c.in_ok-copy_in.field-0 c.args.nodes.now c.nodes.node-index c.node-item.result
    c.nodes.invariant c.nodes-test.true (c.in_ok-copy_in.ensures ∙ ap plain c.node-item.is)

pub copies_in-copy_in-requires : goal.copies_in-copy_in-requires
copies_in-copy_in-requires g t c κs within =
    let small = item_smaller c.args.nodes.now c.nodes.node-index c.node-item.result c.nodes-test.true c.node-item.is in
    (omega (arith, small), within)

pub copies_in-returns : goal.copies_in-returns
copies_in-returns g t c = copied_all c.nodes.copies.items c.args.nodes.now c.nodes.node-index c.nodes.invariant c.nodes-test.false

pub copy_in-list_in-requires-clause-lists : goal.copy_in-list_in-requires-clause-lists
copy_in-list_in-requires-clause-lists g t c = sym c.lists.ensures ∙ c.if-lists.true

pub copy_in-list_in-requires-clause-copied : goal.copy_in-list_in-requires-clause-copied
copy_in-list_in-requires-clause-copied g t c = c.in_ok-copies.ensures ∙ c.listed.ensures

pub copy_in-returns-then-lists : goal.copy_in-returns-then-lists
copy_in-returns-then-lists g t c = c.list_in.ensures

pub copy_in-decorator_in-requires : goal.copy_in-decorator_in-requires
copy_in-decorator_in-requires g t c =
    sym c.in-Some.ensures ∙ ap Some (sym (ap plain c.in_ok-copy-in-Some.ensures ∙ c.in_ok-copy_in-in-Some.ensures))

pub copy_in-returns-in_ok-copy-in-Some : goal.copy_in-returns-in_ok-copy-in-Some
copy_in-returns-in_ok-copy-in-Some g t c = c.decorator_in.ensures

pub copy_in-leaf_in-requires-clause-lists_none : goal.copy_in-leaf_in-requires-clause-lists_none
copy_in-leaf_in-requires-clause-lists_none g t c = sym c.lists.ensures ∙ c.if-lists.false

pub copy_in-leaf_in-requires-clause-decorates_none : goal.copy_in-leaf_in-requires-clause-decorates_none
copy_in-leaf_in-requires-clause-decorates_none g t c = sym c.in-None.ensures

pub copy_in-returns-in-None : goal.copy_in-returns-in-None
copy_in-returns-in-None g t c = c.leaf_in.ensures
