use Rattle.std.proofs.Common.{◌≡◌, ◌+◌, ap, ◌∙◌, arith, refl}
use Rattle.std.proofs.lemmas.List.{length-map}
use Rattle.bt_nodes.specs.Plain.{plain, plains}
use Rattle.bt_nodes.specs.Trees.{plain_of}
use Rattle.bt_tick.specs.Children.{children_of, child_number}
use Rattle.bt_tick.specs.Suspended.{Open, unwind}
use Rattle.bt_tick.specs.Machine.{opened, opens, with_parts}
use Rattle.bt_tick.proofs.Nests.{room}
use Rattle.bt_tick.proofs.Opening.{child_within, child_passed, if_ok, star_next, star_rests, star_falls, star_begins}
use Rattle.bt_tick.proofs.SmallNumbers.{number_small}
use Rattle.bt_tick.proofs.machine.Machine.open_star.Goals as goal

pub overflow_add-at : goal.overflow_add-at
overflow_add-at g c = omega (arith, room c.args.self.now.tree.now (plain c.args.node.now) c.args.number c.requires.sits)

pub number_after-at-requires : goal.number_after-at-requires
number_after-at-requires g c =
    let p = plain_of c.args.self.now.tree.now in
    let f : Open = record { node = plain c.args.node.now; number = c.args.number; next = c.number-next.result; won = 0; lost = 0 } in
    let next = star_next p c.args.self.now.memory f (opens c.args.self.now.stack) c.requires.star.0 c.args.children.now c.requires.star.1 c.args.self.now.fits c.requires.sits c.number-next.ensures in
    omega (arith, c.passed.invariant, child_within p (plain c.args.node.now) c.args.number c.passed._child c.requires.sits (omega (arith, next, c.passed-test.true)))

pub passed-preserved : goal.passed-preserved
passed-preserved g c =
    let p = plain_of c.args.self.now.tree.now in
    let f : Open = record { node = plain c.args.node.now; number = c.args.number; next = c.number-next.result; won = 0; lost = 0 } in
    let next = star_next p c.args.self.now.memory f (opens c.args.self.now.stack) c.requires.star.0 c.args.children.now c.requires.star.1 c.args.self.now.fits c.requires.sits c.number-next.ensures in
    child_passed p (plain c.args.node.now) c.args.number c.passed._child c.requires.sits (omega (arith, next, c.passed-test.true)) c.passed.at _ c.passed.invariant c.number_after-at.ensures

pub open_list-requires-clause-rests : goal.open_list-requires-clause-rests
open_list-requires-clause-rests g c =
    let p = plain_of c.args.self.now.tree.now in
    let f : Open = record { node = plain c.args.node.now; number = c.args.number; next = c.number-next.result; won = 0; lost = 0 } in
    let fs = opens c.args.self.now.stack in
    let all : c.passed._child ≡ c.number-next.result = omega (arith, c.passed-test.false) in
    star_rests p c.args.self.now.memory f fs c.requires.star.0 c.args.children.now c.requires.star.1 c.args.self.now.fits c.requires.sits c.number-next.ensures c.passed.at
    (c.passed.invariant ∙ ap (λ k. child_number k (children_of (plain c.args.node.now)) (c.args.number + 1)) all) refl refl
    (omega (arith, c.requires.deep, length-map c.args.self.now.stack opened)) c.requires.nested

pub returns-clause-keeps : goal.returns-clause-keeps
returns-clause-keeps g c =
    let m = c.args.self.now.memory in
    let w = c.args.self.now.wants.items in
    let f : Open = record { node = plain c.args.node.now; number = c.args.number; next = c.number-next.result; won = 0; lost = 0 } in
    if_ok c.open_list.result (λ r h v s. h v s ∙ ap (unwind v (opens c.args.self.now.stack)) (star_begins v f c.requires.star.0 (plains c.args.children.now) c.requires.star.1 refl refl (with_parts m w s) c.number-next.ensures)) c.open_list.ensures.keeps

pub returns-clause-falls : goal.returns-clause-falls
returns-clause-falls g c =
    let f : Open = record { node = plain c.args.node.now; number = c.args.number; next = c.number-next.result; won = 0; lost = 0 } in
    if_ok c.open_list.result (λ r h. omega (arith, h, star_falls (plain_of c.args.self.now.tree.now) c.args.self.now.memory f (opens c.args.self.now.stack) c.requires.star.0 c.args.children.now c.requires.star.1 c.args.self.now.fits c.requires.sits c.number-next.ensures)) c.open_list.ensures.falls

pub overflow_cast-frame : goal.overflow_cast-frame
overflow_cast-frame g c = omega (arith, number_small c.args.self.now.tree.now (plain c.args.node.now) c.args.number c.requires.sits)
