use Rattle.std.proofs.Common.{◌≡◌, ◌∙◌, ◌+◌, ◌++◌, sym, ap, drop, arith, append-nil}
use Rattle.bt_nodes.specs.Plain.{Forest, plain, plains, tree}
use Rattle.bt_nodes.specs.Sizes.{sizes}
use Rattle.bt_nodes.proofs.Alike.{item_smaller}
use Rattle.bt_nodes.proofs.Below.{size-listed, size-decorated}
use Rattle.bt_nodes.proofs.Forests.{plains-drop, plains-end}
use Rattle.btworld_c.specs.Intents.{actors_in}
use Rattle.btworld_c.proofs.Actors.{tree_met}
use Rattle.btworld_c.proofs.intent_reading.+actors.Goals as goal

pub push_actors-push_actors-requires : goal.push_actors-push_actors-requires
push_actors-push_actors-requires t c =
    let more = size-decorated (plain c.args.node.now) (plain c.in-Some.child.now) c.in-Some.ensures in
    (omega (arith, more), tt)

pub push_actors-push_all_actors-requires : goal.push_actors-push_all_actors-requires
push_actors-push_all_actors-requires t c =
    let more = size-listed (plain c.args.node.now) c.in-None.ensures in
    let same = ap sizes c.listed.ensures in
    (omega (arith, more, same), tt)

pub push_all_actors-push_actors-requires : goal.push_all_actors-push_actors-requires
push_all_actors-push_actors-requires t c =
    let small = item_smaller c.args.nodes.now c.nodes.node-index c.node-item.result c.nodes-test.true c.node-item.is in
    (omega (arith, small), tt)

pub push_all_actors-nodes-preserved : goal.push_all_actors-nodes-preserved
push_all_actors-nodes-preserved t c =
    let nodes = c.args.nodes.now in
    let i = c.nodes.node-index in
    let n = c.node-item.result in
    let rest : Forest = plains (drop (i + 1) nodes) in
    let step : plains (drop i nodes) ≡ tree (plain n) rest = plains-drop nodes i n c.nodes-test.true ∙ ap (λ m. tree (plain m) rest) (sym c.node-item.is) in
    tree_met (plain n) rest (plains (drop i nodes)) c.nodes.them.items c.push_actors.new.them.items _ step c.in_ok-push_actors.ensures c.nodes.invariant

pub push_all_actors-returns : goal.push_all_actors-returns
push_all_actors-returns t c =
    let end = plains-end c.args.nodes.now c.nodes.node-index c.nodes-test.false in
    sym (append-nil c.nodes.them.items) ∙ sym (ap (λ f. c.nodes.them.items ++ actors_in f) end) ∙ c.nodes.invariant
