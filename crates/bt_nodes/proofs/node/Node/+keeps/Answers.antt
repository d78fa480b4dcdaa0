use Rattle.std.proofs.Common.{◌&&◌, true, false, ap, arith, refl, sym, ◌∙◌}
use Rattle.bt_nodes.specs.Plain.{plain}
use Rattle.bt_nodes.specs.Heads.{listed}
use Rattle.bt_nodes.specs.Limits.{keeps, all_keep}
use Rattle.bt_nodes.proofs.Forests.{plains-end, one_asked}
use Rattle.bt_nodes.proofs.Alike.{item_smaller}
use Rattle.bt_nodes.proofs.Below.{keeps-listed, keeps-decorated}
use Rattle.bt_nodes.proofs.node.Node.+keeps.Goals as goal

pub all_keep-keeps-requires : goal.all_keep-keeps-requires
all_keep-keeps-requires g t c κs within =
    let small = item_smaller c.args.nodes.now c.nodes.node-index c.node-item.result c.nodes-test.true c.node-item.is in
    (omega (arith, small), within)

pub keeps-returns-in-Some : goal.keeps-returns-in-Some
keeps-returns-in-Some g t c =
    c.keeps.ensures
    ∙ ap (λ b. b && keeps c.args.limit (plain c.in-Some.child.now)) c.if-not-keeps_alone.ensures
    ∙ sym (keeps-decorated c.args.limit (plain c.args.self.now) (plain c.in-Some.child.now) c.in-Some.ensures)

pub keeps-returns-in-None : goal.keeps-returns-in-None
keeps-returns-in-None g t c =
    c.all_keep.ensures
    ∙ ap (all_keep c.args.limit) c.listed.ensures
    ∙ ap (λ b. b && all_keep c.args.limit (listed (plain c.args.self.now))) c.if-not-keeps_alone.ensures
    ∙ sym (keeps-listed c.args.limit (plain c.args.self.now) c.in-None.ensures)

pub all_keep-returns-then-not-keeps : goal.all_keep-returns-then-not-keeps
all_keep-returns-then-not-keeps g t c =
    one_asked (keeps c.args.limit) (all_keep c.args.limit) (λ p cs. refl) c.args.nodes.now c.nodes.node-index c.node-item.result false
    c.nodes-test.true c.node-item.is c.if-not-keeps.ensures c.nodes.invariant

pub all_keep-nodes-preserved : goal.all_keep-nodes-preserved
all_keep-nodes-preserved g t c =
    one_asked (keeps c.args.limit) (all_keep c.args.limit) (λ p cs. refl) c.args.nodes.now c.nodes.node-index c.node-item.result true
    c.nodes-test.true c.node-item.is c.if-not-keeps.ensures c.nodes.invariant

pub all_keep-returns : goal.all_keep-returns
all_keep-returns g t c =
    sym (ap (all_keep c.args.limit) (plains-end c.args.nodes.now c.nodes.node-index c.nodes-test.false)) ∙ c.nodes.invariant
