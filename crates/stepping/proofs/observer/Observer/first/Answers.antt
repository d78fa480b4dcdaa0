use Rattle.std.proofs.Common.{◌∙◌, ◌+◌, ap, arith}
use Rattle.bt_nodes.specs.Plain.{plain}
use Rattle.bt_nodes.specs.Trees.{plain_of}
use Rattle.bt_nodes.proofs.AtLeastOne.{one-le-size}
use Rattle.bt_nodes.proofs.WithinLimits.{tree_within}
use Rattle.stepping.proofs.Standing.{size_here, none_left, first_stands, first_within, is_first}
use Rattle.stepping.proofs.observer.Observer.first.Goals as goal

pub size_at-requires : goal.size_at-requires
size_at-requires c =
    omega (arith, first_within (plain_of c.args.self.now.tree.now) c.args.nodes.now c.in-Some.rest.now c.in-Some.node.now c.args.number c.in-Some.ensures.cases.0 c.requires, one-le-size (plain c.in-Some.node.now))

pub overflow_add-next : goal.overflow_add-next
overflow_add-next c =
    let last = first_within (plain_of c.args.self.now.tree.now) c.args.nodes.now c.in-Some.rest.now c.in-Some.node.now c.args.number c.in-Some.ensures.cases.0 c.requires in
    omega (arith, last, (tree_within c.args.self.now.tree.now).few, c.size_at.ensures.most)

pub returns-in_default-clause-none : goal.returns-in_default-clause-none
returns-in_default-clause-none c = λ _. none_left c.args.nodes.now c.in_default.ensures.cases

pub returns-clause-first : goal.returns-clause-first
returns-clause-first c =
    let w = plain_of c.args.self.now.tree.now in
    let here = first_stands w c.args.nodes.now c.in-Some.rest.now c.in-Some.node.now c.args.number c.in-Some.ensures.cases.0 c.requires in
    is_first w c.args.nodes.now c.in-Some.rest.now c.in-Some.node.now c.args.number c.in-Some.ensures.cases.0 c.requires _ (tree_within c.args.self.now.tree.now).few
    (ap (λ k. c.args.number + k) (c.size_at.ensures.value ∙ size_here w (plain c.in-Some.node.now) c.args.number here))
