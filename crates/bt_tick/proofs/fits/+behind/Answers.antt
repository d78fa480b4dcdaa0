use Rattle.std.proofs.Common.{◌+◌, ap, sym, ◌∙◌, drop, arith}
use Rattle.bt_nodes.specs.Plain.{plain, plains, tree}
use Rattle.bt_nodes.specs.Sizes.{size}
use Rattle.bt_nodes.specs.Bounds.{bounds, bounds_all}
use Rattle.bt_nodes.proofs.Alike.{element_smaller}
use Rattle.bt_nodes.proofs.Forests.{plains-drop}
use Rattle.bt_tick.specs.Fitting.{behind}
use Rattle.bt_tick.proofs.Fitting.{some_behind, none_behind}
use Rattle.bt_tick.proofs.fits.+behind.Goals as goal

pub behind_all-behind-requires : goal.behind_all-behind-requires
behind_all-behind-requires g t c κs within =
    let small = element_smaller c.args.nodes.now c.nodes.node-index c.node-item.result c.nodes-test.true in
    let is = ap (λ n. size (plain n)) c.node-item.is in
    (omega (arith, small, is), within)

pub behind_all-returns-in-None : goal.behind_all-returns-in-None
behind_all-returns-in-None g t c =
    let i = c.nodes.node-index in
    let d = c.node-item.result in
    let at = plains-drop c.args.nodes.now i d c.nodes-test.true ∙ ap (λ n. tree (plain n) (plains (drop (i + 1) c.args.nodes.now))) (sym c.node-item.is) in
    sym c.nodes.invariant ∙ ap (λ cs. behind (bounds_all cs) c.nodes.left.now) at
    ∙ none_behind (bounds (plain d)) (bounds_all (plains (drop (i + 1) c.args.nodes.now))) c.nodes.left.now c.in-None.ensures

pub behind_all-nodes-preserved : goal.behind_all-nodes-preserved
behind_all-nodes-preserved g t c =
    let i = c.nodes.node-index in
    let d = c.node-item.result in
    let at = plains-drop c.args.nodes.now i d c.nodes-test.true ∙ ap (λ n. tree (plain n) (plains (drop (i + 1) c.args.nodes.now))) (sym c.node-item.is) in
    sym (some_behind (bounds (plain d)) (bounds_all (plains (drop (i + 1) c.args.nodes.now))) c.nodes.left.now c.in-Some.rest.now c.in-Some.ensures)
    ∙ ap (λ cs. behind (bounds_all cs) c.nodes.left.now) (sym at) ∙ c.nodes.invariant
