use Rattle.std.proofs.Common.{ap, arith, refl, sym, ◌∙◌}
use Rattle.bt_nodes.specs.Plain.{plain}
use Rattle.bt_nodes.specs.Sizes.{size, sizes}
use Rattle.bt_nodes.specs.Heads.{listed}
use Rattle.bt_nodes.proofs.Alike.{same_tree, same_over_child, other_child, other_below, listed_smaller, decorated_smaller, element_smaller, other_count, other_element, same_more, same_all}
use Rattle.bt_nodes.proofs.node.Node.+same.Goals as goal

pub are_same-returns-then-nodes-others-clause-differs :
    goal.are_same-returns-then-nodes-others-clause-differs
are_same-returns-then-nodes-others-clause-differs g t c _ = other_count c.args.nodes.now c.args.others.now c.if-nodes-others.true

pub are_same-is_same-requires : goal.are_same-is_same-requires
are_same-is_same-requires g t c κs within =
    let nodes = c.args.nodes.now in
    let small = element_smaller nodes c.nodes.i c.index-nodes-i.result c.nodes-test.true in
    let is = ap (λ n. size (plain n)) c.index-nodes-i.is in
    (omega (arith, small, is), within)

pub are_same-returns-then-not-is_same-clause-differs :
    goal.are_same-returns-then-not-is_same-clause-differs
are_same-returns-then-not-is_same-clause-differs g t c _ =
    other_element c.args.nodes.now c.args.others.now c.nodes.i c.index-nodes-i.result c.index-others-i.result c.nodes-test.true
    c.index-nodes-i.is c.index-others-i.is (c.if-not-is_same.ensures.differs refl)

pub are_same-nodes-preserved : goal.are_same-nodes-preserved
are_same-nodes-preserved g t c =
    same_more c.args.nodes.now c.args.others.now c.nodes.i c.index-nodes-i.result c.index-others-i.result c.if-nodes-others.false c.nodes-test.true
    c.index-nodes-i.is c.index-others-i.is (c.if-not-is_same.ensures.same refl) c.nodes.invariant

pub are_same-returns-clause-same : goal.are_same-returns-clause-same
are_same-returns-clause-same g t c _ =
    same_all c.args.nodes.now c.args.others.now c.nodes.i c.if-nodes-others.false c.nodes-test.false c.nodes.invariant

pub is_same-are_same-requires : goal.is_same-are_same-requires
is_same-are_same-requires g t c κs within =
    let small = listed_smaller (plain c.args.self.now) in
    let is = ap sizes c.listed.ensures in
    (omega (arith, small, is), within)

pub is_same-returns-in-None-None-clause-same : goal.is_same-returns-in-None-None-clause-same
is_same-returns-in-None-None-clause-same g t c r =
    same_tree (plain c.args.self.now) (plain c.args.other.now) (c.if-not-has_same_head.ensures.kinds refl) (c.if-not-has_same_head.ensures.numbers refl)
    (sym c.listed.ensures ∙ c.are_same.ensures.same r ∙ c.listed-in-None-None.ensures)
    (sym c.in-None-None.ensures ∙ c.in-None-None.ensures')

pub is_same-returns-in-None-None-clause-differs : goal.is_same-returns-in-None-None-clause-differs
is_same-returns-in-None-None-clause-differs g t c r e = c.are_same.ensures.differs r (c.listed.ensures ∙ ap listed e ∙ sym c.listed-in-None-None.ensures)

pub is_same-returns-then-not-has_same_head-clause-differs : goal.is_same-returns-then-not-has_same_head-clause-differs
is_same-returns-then-not-has_same_head-clause-differs g t c r = c.if-not-has_same_head.ensures.differs refl

pub is_same-is_same-requires : goal.is_same-is_same-requires
is_same-is_same-requires g t c κs within =
    let small = decorated_smaller (plain c.args.self.now) (plain c.in-Some-Some.child.now) c.in-Some-Some.ensures in
    (omega (arith, small), within)

pub is_same-returns-in-Some-Some-clause-same : goal.is_same-returns-in-Some-Some-clause-same
is_same-returns-in-Some-Some-clause-same g t c r =
    same_over_child (plain c.args.self.now) (plain c.args.other.now) (plain c.in-Some-Some.child.now) (plain c.in-Some-Some.twin.now)
    (c.if-not-has_same_head.ensures.kinds refl) (c.if-not-has_same_head.ensures.numbers refl)
    c.in-Some-Some.ensures c.in-Some-Some.ensures' (c.is_same.ensures.same r)

pub is_same-returns-in-Some-Some-clause-differs : goal.is_same-returns-in-Some-Some-clause-differs
is_same-returns-in-Some-Some-clause-differs g t c r =
    other_child (plain c.args.self.now) (plain c.args.other.now) (plain c.in-Some-Some.child.now) (plain c.in-Some-Some.twin.now)
    c.in-Some-Some.ensures c.in-Some-Some.ensures' (c.is_same.ensures.differs r)

pub is_same-returns-in_default-clause-differs : goal.is_same-returns-in_default-clause-differs
is_same-returns-in_default-clause-differs g t c r =
    other_below (plain c.args.self.now) (plain c.args.other.now) (plain c.in_default.field-0-0.now) c.in_default.ensures c.in_default.ensures'

pub is_same-returns-in_default-2-clause-differs : goal.is_same-returns-in_default-2-clause-differs
is_same-returns-in_default-2-clause-differs g t c r e =
    other_below (plain c.args.other.now) (plain c.args.self.now) (plain c.in_default.field-0-1.now) c.in_default.ensures' c.in_default.ensures (sym e)
