use Rattle.std.proofs.Common.{◌≡◌, ◌<◌, ◌≤◌, ◌+◌, ◌++◌, ◌∙◌, ℕ, List, length, get_or, drop, sym, ap, arith}
use Rattle.std.proofs.lemmas.Option.{get_or_from_slice_get, slice_get-get_or}
use Rattle.bt_nodes.specs.Trees.{plain_of}
use Rattle.bt_nodes.proofs.MemoryBounds.{length-bounds}
use Rattle.stepping.proofs.Memories.{number_small, one_more, no_more}
use Rattle.stepping.proofs.agent_memory.numbers_of.Goals as goal

pub unreachable-requires : goal.unreachable-requires
unreachable-requires c =
    let m : List ℕ = c.args.memory.now in
    let long : length m ≡ c.size-size.result = c.requires.same_length ∙ length-bounds (plain_of c.args.tree.now) ∙ sym c.size-size.ensures.value in
    let inside : c.nodes.node < length m = omega (arith, long, c.nodes-test.true) in
    c.in_default.not-Some (get_or m c.nodes.node 0) (c.at.ensures ∙ slice_get-get_or m c.nodes.node 0 inside)

pub overflow_cast-number : goal.overflow_cast-number
overflow_cast-number c =
    let m : List ℕ = c.args.memory.now in
    let long : length m ≡ c.size-size.result = c.requires.same_length ∙ length-bounds (plain_of c.args.tree.now) ∙ sym c.size-size.ensures.value in
    let inside : c.nodes.node < length m = omega (arith, long, c.nodes-test.true) in
    omega (arith, number_small c.args.tree.now m c.nodes.node c.in-Some.number c.requires inside (get_or_from_slice_get m c.nodes.node c.in-Some.number 0 (sym c.at.ensures ∙ c.in-Some.is)))

pub nodes-preserved : goal.nodes-preserved
nodes-preserved c =
    let m : List ℕ = c.args.memory.now in
    let x : ℕ = c.in-Some.number in
    let long : length m ≡ c.size-size.result = c.requires.same_length ∙ length-bounds (plain_of c.args.tree.now) ∙ sym c.size-size.ensures.value in
    let inside : c.nodes.node < length m = omega (arith, long, c.nodes-test.true) in
    ap (λ (l : List ℕ). l ++ drop (c.nodes.node + 1) m) c.in_ok-push.ensures.items
    ∙ one_more c.nodes.numbers.items m c.nodes.node 0 x inside (get_or_from_slice_get m c.nodes.node x 0 (sym c.at.ensures ∙ c.in-Some.is)) c.nodes.invariant

pub returns : goal.returns
returns c =
    let m : List ℕ = c.args.memory.now in
    let long : length m ≡ c.size-size.result = c.requires.same_length ∙ length-bounds (plain_of c.args.tree.now) ∙ sym c.size-size.ensures.value in
    let over : length m ≤ c.nodes.node = omega (arith, long, c.nodes-test.false) in
    no_more c.nodes.numbers.items m c.nodes.node over c.nodes.invariant
