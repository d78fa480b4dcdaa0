use Rattle.std.proofs.Common.{◌&&◌, ap, arith, sym, ◌∙◌}
use Rattle.std.specs.List.{list_all}
use Rattle.bt_nodes.specs.Plain.{plain}
use Rattle.bt_nodes.specs.Heads.{listed}
use Rattle.bt_nodes.proofs.Alike.{item_smaller}
use Rattle.level_text.specs.Named.{named, named_in, is_found}
use Rattle.level_text.proofs.NamedBelow.{named-listed, named-decorated, none-named}
use Rattle.level_text.proofs.named.+named.Goals as goal

pub have_named-has_named-requires : goal.have_named-has_named-requires
have_named-has_named-requires t c =
    let small = item_smaller c.args.nodes.now c.nodes.node-index c.node-item.result c.nodes-test.true c.node-item.is in
    (omega (arith, small), tt)

pub has_named-returns-then-not-has_own : goal.has_named-returns-then-not-has_own
has_named-returns-then-not-has_own t c =
    sym (none-named (is_found c.args.what c.args.world.now) c.args.what (plain c.args.node.now) (sym c.if-not-has_own.ensures))

pub has_named-returns-in-Some : goal.has_named-returns-in-Some
has_named-returns-in-Some t c =
    let found = is_found c.args.what c.args.world.now in
    c.has_named.ensures
    ∙ ap (λ b. b && list_all found (named c.args.what (plain c.in-Some.child.now))) c.if-not-has_own.ensures
    ∙ sym (named-decorated found c.args.what (plain c.args.node.now) (plain c.in-Some.child.now) c.in-Some.ensures)

pub has_named-returns-in-None : goal.has_named-returns-in-None
has_named-returns-in-None t c =
    let found = is_found c.args.what c.args.world.now in
    c.have_named.ensures
    ∙ ap (λ cs. list_all found (named_in c.args.what cs)) c.listed.ensures
    ∙ ap (λ b. b && list_all found (named_in c.args.what (listed (plain c.args.node.now)))) c.if-not-has_own.ensures
    ∙ sym (named-listed found c.args.what (plain c.args.node.now) c.in-None.ensures)
