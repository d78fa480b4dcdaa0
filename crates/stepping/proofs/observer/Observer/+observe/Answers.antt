use Rattle.std.proofs.Common.{◌≡◌, ◌∙◌, ◌+◌, ◌<◌, ap, sym, subst, refl, arith, ℕ}
use Rattle.std.specs.Prelude.{Some}
use Rattle.bt_nodes.specs.Plain.{Seq, Fallback, Forest, plain, plains}
use Rattle.bt_nodes.specs.Sizes.{size, count}
use Rattle.bt_nodes.specs.Trees.{plain_of}
use Rattle.bt_nodes.proofs.AtLeastOne.{one-le-size}
use Rattle.bt_nodes.proofs.Forests.{count-plains}
use Rattle.bt_nodes.proofs.WithinLimits.{tree_within}
use Rattle.bt_tick.specs.Views.{view_of}
use Rattle.stepping.specs.Observing.{seen, kind_of, StandsAt}
use Rattle.stepping.proofs.Parts.{told_own, line_none, star_none, all_none, number_room, of_not, gives_up, counts_child}
use Rattle.stepping.proofs.Children.{IsLine, IsStar, IsAll, line_goes_on, line_ends, star_passes, star_goes_on, star_ends, star_waits, all_goes_on, all_waits, counted_few}
use Rattle.stepping.proofs.Variants.{seq_is, fallback_is, seq_star_is, fallback_star_is, par_is, not_is, tries_is, ticks_is, as_plain, as_line, as_star, as_all}
use Rattle.stepping.proofs.Leaves.{moves}
use Rattle.stepping.proofs.Standing.{within, below, counted_stands, counted_within}
use Rattle.stepping.proofs.observer.Observer.+observe.Goals as goal

-- ---- a node, and what it answers itself

pub observe-tick-requires : goal.observe-tick-requires
observe-tick-requires t c =
    (omega arith, (c.requires.view, (c.requires.stands, c.requires.room)))

pub observe-tell-requires : goal.observe-tell-requires
observe-tell-requires t c =
    let i = within (plain_of c.args.self.now.tree.now) (plain c.args.node.now) c.args.number c.requires.stands in
    let one = one-le-size (plain c.args.node.now) in
    let r = c.in_ok-reply.ensures.room.told in
    omega (arith, i, one, r)

pub observe-returns : goal.observe-returns
observe-returns t c =
    told_own (plain_of c.args.self.now.tree.now) (view_of c.args.self.now.view.now) (plain c.args.node.now) c.args.number _ _ _ c.in_ok-reply.reply c.in_ok-reply.ensures (c.tell.ensures c.args.self.now.answers.now)

-- ---- the children of a seq or a fallback

pub line-observe-requires : goal.line-observe-requires
line-observe-requires t c =
    let f = c.in-Some.ensures.first in
    (omega (arith, f.many), (c.requires.view, (f.stands, c.requires.room)))

pub line-line-requires : goal.line-line-requires
line-line-requires t c =
    let f = c.in-Some.ensures.first in
    (omega (arith, f.many, f.later, f.behind), (c.requires.view, (f.stand, c.in_ok-reply.ensures.room)))

pub line-returns-in_default : goal.line-returns-in_default
line-returns-in_default t c =
    subst (λ (cs : Forest). IsLine (plain_of c.args.self.now.tree.now) (view_of c.args.self.now.view.now) (kind_of c.args.order) cs c.args.number (seen c.args.self.now.answers.now c.args.at.now) (Some c.goes.result) (seen c.args.self.now.answers.now c.args.at.now)) (sym (c.in_default.ensures.none refl))
    (rw c.goes.ensures (line_none (plain_of c.args.self.now.tree.now) (view_of c.args.self.now.view.now) (kind_of c.args.order) c.args.number (seen c.args.self.now.answers.now c.args.at.now) c.requires.room))

pub line-returns-then-goes_on : goal.line-returns-then-goes_on
line-returns-then-goes_on t c =
    line_goes_on (plain_of c.args.self.now.tree.now) (view_of c.args.self.now.view.now) c.in-Some.ensures.first c.in_ok-reply.ensures (kind_of c.args.order) _ _ (sym c.goes_on.ensures ∙ c.if-goes_on.true) c.in_ok-line.ensures

pub line-returns : goal.line-returns
line-returns t c =
    line_ends (plain_of c.args.self.now.tree.now) (view_of c.args.self.now.view.now) c.in-Some.ensures.first c.in_ok-reply.ensures (kind_of c.args.order) (sym c.goes_on.ensures ∙ c.if-goes_on.false)

-- ---- the children of a seq* or a fallback*

pub star-observe-requires : goal.star-observe-requires
star-observe-requires t c =
    let f = c.in-Some.ensures.first in
    (omega (arith, f.many), (c.requires.view, (f.stands, c.requires.room)))

pub star-star-requires : goal.star-star-requires
star-star-requires t c =
    let f = c.in-Some.ensures.first in
    (omega (arith, f.many, f.later, f.behind), (c.requires.view, (f.stand, (c.requires.room, (c.requires.own, omega (arith, f.later, c.requires.few))))))

pub star-star-requires-then-goes_on : goal.star-star-requires-then-goes_on
star-star-requires-then-goes_on t c =
    let f = c.in-Some.ensures.first in
    let room = number_room (plain_of c.args.self.now.tree.now) _ _ c.args.own (c.args.index + 1) c.in_ok-reply.ensures.room (c.put-then-goes_on.ensures c.args.self.now.answers.now) in
    (omega (arith, f.many, f.later, f.behind), (c.requires.view, (f.stand, (room, (c.requires.own, omega (arith, f.later, c.requires.few))))))

pub star-overflow_add-index : goal.star-overflow_add-index
star-overflow_add-index t c =
    omega (arith, c.in-Some.ensures.first.later, c.in-Some.ensures.first.within, c.requires.few)

pub star-overflow_add-index-then-goes_on : goal.star-overflow_add-index-then-goes_on
star-overflow_add-index-then-goes_on t c =
    omega (arith, c.in-Some.ensures.first.later, c.in-Some.ensures.first.within, c.requires.few)

pub star-overflow_add-index-then-goes_on-2 : goal.star-overflow_add-index-then-goes_on-2
star-overflow_add-index-then-goes_on-2 t c =
    omega (arith, c.in-Some.ensures.first.later, c.in-Some.ensures.first.within, c.requires.few)

pub star-put-requires : goal.star-put-requires
star-put-requires t c =
    omega (arith, c.requires.own, c.requires.room.numbers)

pub star-put-requires-then-goes_on : goal.star-put-requires-then-goes_on
star-put-requires-then-goes_on t c =
    omega (arith, c.requires.own, c.in_ok-reply.ensures.room.numbers)

pub star-put-requires-then-stops : goal.star-put-requires-then-stops
star-put-requires-then-stops t c =
    omega (arith, c.requires.own, c.in_ok-reply.ensures.room.numbers)

pub star-returns-in_default : goal.star-returns-in_default
star-returns-in_default t c =
    let b = seen c.args.self.now.answers.now c.put.new.self in
    subst (λ (cs : Forest). IsStar (plain_of c.args.self.now.tree.now) (view_of c.args.self.now.view.now) (kind_of c.args.order) c.args.passed c.args.index c.args.own cs c.args.number (seen c.args.self.now.answers.now c.args.at.now) (Some c.goes.result) b) (sym (c.in_default.ensures.none refl))
    (rw c.goes.ensures (star_none (plain_of c.args.self.now.tree.now) (view_of c.args.self.now.view.now) (kind_of c.args.order) c.args.passed c.args.index c.args.own c.args.number (seen c.args.self.now.answers.now c.args.at.now) b c.requires.room (c.put.ensures c.args.self.now.answers.now)))

pub star-returns-then-passed-gt0 : goal.star-returns-then-passed-gt0
star-returns-then-passed-gt0 t c =
    star_passes (plain_of c.args.self.now.tree.now) (view_of c.args.self.now.view.now) c.in-Some.ensures.first (kind_of c.args.order) c.args.passed c.args.index c.args.own _ _ _ c.if-passed-gt0.true c.in_ok-star.ensures

pub star-returns-then-goes_on : goal.star-returns-then-goes_on
star-returns-then-goes_on t c =
    star_goes_on (plain_of c.args.self.now.tree.now) (view_of c.args.self.now.view.now) c.in-Some.ensures.first c.in_ok-reply.ensures (kind_of c.args.order) c.args.passed c.args.index c.args.own (omega (arith, c.if-passed-gt0.false)) _ _ _
    (sym c.goes_on.ensures ∙ c.if-goes_on.true) (c.put-then-goes_on.ensures c.args.self.now.answers.now) c.in_ok-star-2.ensures

pub star-returns-then-stops : goal.star-returns-then-stops
star-returns-then-stops t c =
    star_ends (plain_of c.args.self.now.tree.now) (view_of c.args.self.now.view.now) c.in-Some.ensures.first c.in_ok-reply.ensures (kind_of c.args.order) c.args.passed c.args.index c.args.own (omega (arith, c.if-passed-gt0.false)) _
    (sym c.goes_on.ensures ∙ c.if-goes_on.false) (sym c.stops.ensures ∙ c.if-stops.true) (c.put-then-stops.ensures c.args.self.now.answers.now)

pub star-returns-else-stops : goal.star-returns-else-stops
star-returns-else-stops t c =
    star_waits (plain_of c.args.self.now.tree.now) (view_of c.args.self.now.view.now) c.in-Some.ensures.first c.in_ok-reply.ensures (kind_of c.args.order) c.args.passed c.args.index c.args.own (omega (arith, c.if-passed-gt0.false))
    (sym c.goes_on.ensures ∙ c.if-goes_on.false) (sym c.stops.ensures ∙ c.if-stops.false)

-- ---- the children of a par

pub all-observe-requires : goal.all-observe-requires
all-observe-requires t c =
    let f = c.in-Some.ensures.first in
    (omega (arith, f.many), (c.requires.view, (f.stands, c.requires.room)))

pub all-counted-won-requires : goal.all-counted-won-requires
all-counted-won-requires t c =
    omega (arith, c.in-Some.ensures.first.later, c.in-Some.ensures.first.within, c.requires.few)

pub all-all-requires : goal.all-all-requires
all-all-requires t c =
    let f = c.in-Some.ensures.first in
    let most = counted_few c.in-Some-reply.status c.args.won c.args.lost in
    let few = subst (λ (x : ℕ × ℕ). x.0 + x.1 < c.in-Some.next) (sym c.counted-won.ensures) (omega (arith, most, f.later, c.requires.few)) in
    (omega (arith, f.many, f.later, f.behind), (c.requires.view, (f.stand, (c.in_ok-reply.ensures.room, few))))

pub all-returns-in_default : goal.all-returns-in_default
all-returns-in_default t c =
    subst (λ (cs : Forest). IsAll (plain_of c.args.self.now.tree.now) (view_of c.args.self.now.view.now) c.args.most c.args.count c.args.won c.args.lost cs c.args.number (seen c.args.self.now.answers.now c.args.at.now) (Some c.verdict.result) (seen c.args.self.now.answers.now c.args.at.now)) (sym (c.in_default.ensures.none refl))
    (rw c.verdict.ensures (all_none (plain_of c.args.self.now.tree.now) (view_of c.args.self.now.view.now) c.args.most c.args.count c.args.won c.args.lost c.args.number (seen c.args.self.now.answers.now c.args.at.now) c.requires.room))

pub all-returns-in_default-reply : goal.all-returns-in_default-reply
all-returns-in_default-reply t c =
    all_waits (plain_of c.args.self.now.tree.now) (view_of c.args.self.now.view.now) c.in-Some.ensures.first c.in_ok-reply.ensures c.args.most c.args.count c.args.won c.args.lost c.in_default-reply.is

pub all-returns : goal.all-returns
all-returns t c =
    all_goes_on (plain_of c.args.self.now.tree.now) (view_of c.args.self.now.view.now) c.in-Some.ensures.first c.in_ok-reply.ensures c.args.most c.args.count c.args.won c.args.lost _ c.counted-won.result _ _ c.in-Some-reply.is c.counted-won.ensures c.in_ok-all.ensures

-- ---- a tries or a ticks

pub count-number-past-requires : goal.count-number-past-requires
count-number-past-requires t c =
    let i = counted_within (plain_of c.args.self.now.tree.now) c.args.by c.args.most (plain c.args.child.now) c.args.number c.requires.stands in
    omega (arith, i, c.requires.room.numbers)

pub count-give_up-requires : goal.count-give_up-requires
count-give_up-requires t c =
    let i = counted_within (plain_of c.args.self.now.tree.now) c.args.by c.args.most (plain c.args.child.now) c.args.number c.requires.stands in
    omega (arith, i, c.requires.room.numbers)

pub count-overflow_add-number : goal.count-overflow_add-number
count-overflow_add-number t c =
    let i = counted_within (plain_of c.args.self.now.tree.now) c.args.by c.args.most (plain c.args.child.now) c.args.number c.requires.stands in
    omega (arith, i, (tree_within c.args.self.now.tree.now).few)

pub count-observe-requires : goal.count-observe-requires
count-observe-requires t c =
    (omega arith, (c.requires.view, (counted_stands (plain_of c.args.self.now.tree.now) c.args.by c.args.most _ c.args.number c.requires.stands, c.requires.room)))

pub count-count-requires : goal.count-count-requires
count-count-requires t c =
    let i = counted_within (plain_of c.args.self.now.tree.now) c.args.by c.args.most (plain c.args.child.now) c.args.number c.requires.stands in
    record { node = omega (arith, i, c.in_ok-reply.ensures.room.numbers); few = omega (arith, c.if-past-most.false, c.ranges.most) }

pub count-returns-then-past-most : goal.count-returns-then-past-most
count-returns-then-past-most t c =
    gives_up (plain_of c.args.self.now.tree.now) (view_of c.args.self.now.view.now) c.args.most (plain c.args.child.now) c.args.number c.number-past.result _ c.number-past.ensures c.args.by _ c.if-past-most.true c.requires.room (c.give_up.ensures c.args.self.now.answers.now)

pub count-returns : goal.count-returns
count-returns t c =
    counts_child (plain_of c.args.self.now.tree.now) (view_of c.args.self.now.view.now) c.args.most (plain c.args.child.now) c.args.number c.number-past.result _ c.number-past.ensures c.args.by _ _ _ c.if-past-most.false c.in_ok-reply.ensures (c.count.ensures c.args.self.now.answers.now)

-- ---- a node of each variant

pub tick-overflow_add-below : goal.tick-overflow_add-below
tick-overflow_add-below t c =
    omega (arith, within (plain_of c.args.self.now.tree.now) (plain c.args.node.now) c.args.number c.requires.stands, (tree_within c.args.self.now.tree.now).few)

pub tick-number-own-requires : goal.tick-number-own-requires
tick-number-own-requires t c =
    omega (arith, within (plain_of c.args.self.now.tree.now) (plain c.args.node.now) c.args.number c.requires.stands, one-le-size (plain c.args.node.now), c.requires.room.numbers)

pub tick-line-requires : goal.tick-line-requires
tick-line-requires t c =
    let is = seq_is c.args.node.now c.in-Seq.children c.deref.result.now c.deref.ensures.value c.in-Seq.is in
    (omega (arith, ap size is), (c.requires.view, (below (plain_of c.args.self.now.tree.now) c.args.number _ _ (subst (StandsAt (plain_of c.args.self.now.tree.now) c.args.number) is c.requires.stands), c.requires.room)))

pub tick-returns-in_ok-line-in-Seq : goal.tick-returns-in_ok-line-in-Seq
tick-returns-in_ok-line-in-Seq t c =
    let is = seq_is c.args.node.now c.in-Seq.children c.deref.result.now c.deref.ensures.value c.in-Seq.is in
    as_line (plain_of c.args.self.now.tree.now) (view_of c.args.self.now.view.now) (plain c.args.node.now) c.args.number _ _ _ Seq _ is c.in_ok-line-in-Seq.ensures

pub tick-line-requires-in-Fallback : goal.tick-line-requires-in-Fallback
tick-line-requires-in-Fallback t c =
    let is = fallback_is c.args.node.now c.in-Fallback.children c.deref-in-Fallback.result.now c.deref-in-Fallback.ensures.value c.in-Fallback.is in
    (omega (arith, ap size is), (c.requires.view, (below (plain_of c.args.self.now.tree.now) c.args.number _ _ (subst (StandsAt (plain_of c.args.self.now.tree.now) c.args.number) is c.requires.stands), c.requires.room)))

pub tick-returns-in_ok-line-in-Fallback : goal.tick-returns-in_ok-line-in-Fallback
tick-returns-in_ok-line-in-Fallback t c =
    let is = fallback_is c.args.node.now c.in-Fallback.children c.deref-in-Fallback.result.now c.deref-in-Fallback.ensures.value c.in-Fallback.is in
    as_line (plain_of c.args.self.now.tree.now) (view_of c.args.self.now.view.now) (plain c.args.node.now) c.args.number _ _ _ Fallback _ is c.in_ok-line-in-Fallback.ensures

pub tick-star-requires : goal.tick-star-requires
tick-star-requires t c =
    let is = seq_star_is c.args.node.now c.in-SeqStar.children c.deref-in-SeqStar.result.now c.deref-in-SeqStar.ensures.value c.in-SeqStar.is in
    (omega (arith, ap size is), (c.requires.view, (below (plain_of c.args.self.now.tree.now) c.args.number _ _ (subst (StandsAt (plain_of c.args.self.now.tree.now) c.args.number) is c.requires.stands), (c.requires.room, (omega (arith, within (plain_of c.args.self.now.tree.now) (plain c.args.node.now) c.args.number c.requires.stands, one-le-size (plain c.args.node.now)), omega arith)))))

pub tick-returns-in_ok-star-in-SeqStar : goal.tick-returns-in_ok-star-in-SeqStar
tick-returns-in_ok-star-in-SeqStar t c =
    let is = seq_star_is c.args.node.now c.in-SeqStar.children c.deref-in-SeqStar.result.now c.deref-in-SeqStar.ensures.value c.in-SeqStar.is in
    as_star (plain_of c.args.self.now.tree.now) (view_of c.args.self.now.view.now) (plain c.args.node.now) c.args.number _ _ _ Seq c.number-own.result _ is c.number-own.ensures c.in_ok-star-in-SeqStar.ensures

pub tick-star-requires-in-FallbackStar : goal.tick-star-requires-in-FallbackStar
tick-star-requires-in-FallbackStar t c =
    let is = fallback_star_is c.args.node.now c.in-FallbackStar.children c.deref-in-FallbackStar.result.now c.deref-in-FallbackStar.ensures.value c.in-FallbackStar.is in
    (omega (arith, ap size is), (c.requires.view, (below (plain_of c.args.self.now.tree.now) c.args.number _ _ (subst (StandsAt (plain_of c.args.self.now.tree.now) c.args.number) is c.requires.stands), (c.requires.room, (omega (arith, within (plain_of c.args.self.now.tree.now) (plain c.args.node.now) c.args.number c.requires.stands, one-le-size (plain c.args.node.now)), omega arith)))))

pub tick-returns-in_ok-star-in-FallbackStar : goal.tick-returns-in_ok-star-in-FallbackStar
tick-returns-in_ok-star-in-FallbackStar t c =
    let is = fallback_star_is c.args.node.now c.in-FallbackStar.children c.deref-in-FallbackStar.result.now c.deref-in-FallbackStar.ensures.value c.in-FallbackStar.is in
    as_star (plain_of c.args.self.now.tree.now) (view_of c.args.self.now.view.now) (plain c.args.node.now) c.args.number _ _ _ Fallback c.number-own.result _ is c.number-own.ensures c.in_ok-star-in-FallbackStar.ensures

pub tick-all-requires : goal.tick-all-requires
tick-all-requires t c =
    let is = par_is c.args.node.now c.in-Par.children c.deref-in-Par.result.now c.deref-in-Par.ensures.value c.in-Par.most c.in-Par.is in
    (omega (arith, ap size is), (c.requires.view, (below (plain_of c.args.self.now.tree.now) c.args.number _ _ (subst (StandsAt (plain_of c.args.self.now.tree.now) c.args.number) is c.requires.stands), (c.requires.room, omega arith))))

pub tick-returns-in_ok-all-in-Par : goal.tick-returns-in_ok-all-in-Par
tick-returns-in_ok-all-in-Par t c =
    let is = par_is c.args.node.now c.in-Par.children c.deref-in-Par.result.now c.deref-in-Par.ensures.value c.in-Par.most c.in-Par.is in
    let e = c.len-count.ensures in
    let f = count-plains c.in-Par.children.items in
    let q : c.len-count.result ≡ count (plains c.in-Par.children.items) = omega (arith, e, f) in
    let count_is = q ∙ ap (λ l. count (plains l)) (sym c.deref-in-Par.ensures.value) in
    as_all (plain_of c.args.self.now.tree.now) (view_of c.args.self.now.view.now) (plain c.args.node.now) c.args.number _ _ _ c.in-Par.most c.len-count.result _ is count_is c.in_ok-all-in-Par.ensures

pub tick-observe-requires : goal.tick-observe-requires
tick-observe-requires t c =
    let is = not_is c.args.node.now c.in-Not.child c.deref-in-Not.result.now c.deref-in-Not.ensures c.in-Not.is in
    (omega (arith, ap size is), (c.requires.view, (below (plain_of c.args.self.now.tree.now) c.args.number _ _ (subst (StandsAt (plain_of c.args.self.now.tree.now) c.args.number) is c.requires.stands), c.requires.room)))

pub tick-returns-in_ok-observe-in-Not : goal.tick-returns-in_ok-observe-in-Not
tick-returns-in_ok-observe-in-Not t c =
    let is = not_is c.args.node.now c.in-Not.child c.deref-in-Not.result.now c.deref-in-Not.ensures c.in-Not.is in
    rw c.opposite.ensures (as_plain (plain_of c.args.self.now.tree.now) (view_of c.args.self.now.view.now) (plain c.args.node.now) c.args.number _ _ _ _ is (of_not (plain_of c.args.self.now.tree.now) (view_of c.args.self.now.view.now) (plain c.deref-in-Not.result.now) c.args.number _ _ c.in_ok-observe-in-Not.field-0 c.in_ok-observe-in-Not.ensures))

pub tick-count-requires : goal.tick-count-requires
tick-count-requires t c =
    let is = tries_is c.args.node.now c.in-Tries.child c.deref-in-Tries.result.now c.deref-in-Tries.ensures c.in-Tries.most c.in-Tries.is in
    (omega (arith, ap size is), (c.requires.view, (subst (StandsAt (plain_of c.args.self.now.tree.now) c.args.number) is c.requires.stands, c.requires.room)))

pub tick-returns-in_ok-count-in-Tries : goal.tick-returns-in_ok-count-in-Tries
tick-returns-in_ok-count-in-Tries t c =
    let is = tries_is c.args.node.now c.in-Tries.child c.deref-in-Tries.result.now c.deref-in-Tries.ensures c.in-Tries.most c.in-Tries.is in
    as_plain (plain_of c.args.self.now.tree.now) (view_of c.args.self.now.view.now) (plain c.args.node.now) c.args.number _ _ _ _ is c.in_ok-count-in-Tries.ensures

pub tick-count-requires-in-Ticks : goal.tick-count-requires-in-Ticks
tick-count-requires-in-Ticks t c =
    let is = ticks_is c.args.node.now c.in-Ticks.child c.deref-in-Ticks.result.now c.deref-in-Ticks.ensures c.in-Ticks.most c.in-Ticks.is in
    (omega (arith, ap size is), (c.requires.view, (subst (StandsAt (plain_of c.args.self.now.tree.now) c.args.number) is c.requires.stands, c.requires.room)))

pub tick-returns-in_ok-count-in-Ticks : goal.tick-returns-in_ok-count-in-Ticks
tick-returns-in_ok-count-in-Ticks t c =
    let is = ticks_is c.args.node.now c.in-Ticks.child c.deref-in-Ticks.result.now c.deref-in-Ticks.ensures c.in-Ticks.most c.in-Ticks.is in
    as_plain (plain_of c.args.self.now.tree.now) (view_of c.args.self.now.view.now) (plain c.args.node.now) c.args.number _ _ _ _ is c.in_ok-count-in-Ticks.ensures

pub tick-returns-in_ok-act-in_default : goal.tick-returns-in_ok-act-in_default
tick-returns-in_ok-act-in_default t c = c.in_ok-act-in_default.ensures c.args.number

pub tick-returns-in_ok-follow-in-Move : goal.tick-returns-in_ok-follow-in-Move
tick-returns-in_ok-follow-in-Move t c =
    let o = c.in_ok-follow-in-Move.ensures c.args.number in
    as_plain (plain_of c.args.self.now.tree.now) (view_of c.args.self.now.view.now) (plain c.args.node.now) c.args.number _ _ _ _ (moves c.args.node.now c.in-Move.place c.in-Move.is) (record { result = o.result; told = o.told; room = o.room })
