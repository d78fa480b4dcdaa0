use Rattle.std.proofs.Common.{◌≤◌, ◌+◌, ◌*◌, ◌∷◌, ap, ◌∙◌, sym, subst, arith}
use Rattle.std.proofs.lemmas.List.{length-map}
use Rattle.bt_nodes.specs.Plain.{plain}
use Rattle.bt_nodes.specs.Sizes.{size}
use Rattle.game_rules.specs.Tick.{tick}
use Rattle.bt_tick.specs.Suspended.{unwind}
use Rattle.bt_tick.specs.Places.{weight_of, weight_all}
use Rattle.bt_tick.specs.Machine.{opened, opens, whole_of, with_parts}
use Rattle.bt_tick.proofs.Forests.{listed_child}
use Rattle.bt_tick.proofs.Nests.{room, begun, entered_keeps, entered_sits, entered_deep, entered_nested, entered_falls}
use Rattle.bt_tick.proofs.Opening.{placed_by}
use Rattle.bt_tick.proofs.SmallNumbers.{next_small}
use Rattle.bt_tick.proofs.machine.Machine.open_list.Goals as goal

pub open-requires : goal.open-requires
open-requires g c = record {
  room = omega (arith, c.requires.rests.0.deep, length-map c.args.self.now.stack opened, room c.args.self.now.tree.now (plain c.args.frame.node.now) c.args.frame.number c.requires.rests.0.sits);
}

pub overflow_add-next : goal.overflow_add-next
overflow_add-next g c = omega (arith, next_small c.args.self.now.tree.now (plain c.args.frame.node.now) c.args.frame.number c.requires.rests.0.sits c.args.frame.next c.requires.rests.0.begun)

pub returns-then-next-children-clause-keeps : goal.returns-then-next-children-clause-keeps
returns-then-next-children-clause-keeps g c v s =
    let fs = opens c.args.self.now.stack in
    let f = opened c.args.frame in
    let p = plain c.index-children-next.result in
    let now = c.open.new.self in
    let old = c.args.self.now in
    let there = listed_child (plain c.args.frame.node.now) _ c.args.frame.next c.index-children-next.result c.requires.list c.listed-children.ensures (omega (arith, c.if-next-children.true)) c.index-children-next.is in
    ap (λ frames. unwind v (opens frames) (tick v p c.args.at (with_parts now.memory now.wants.items s))) c.in_ok-open.ensures.stack
    ∙ ap (λ m. unwind v (begun f ∷ fs) (tick v p c.args.at (with_parts m now.wants.items s))) c.open.ensures.memory
    ∙ ap (λ w. unwind v (begun f ∷ fs) (tick v p c.args.at (with_parts old.memory w.items s))) c.open.ensures.wants
    ∙ entered_keeps f fs p c.args.at there v c.requires.list c.requires.rests.0.following (with_parts old.memory old.wants.items s)

pub returns-then-next-children-clause-placed : goal.returns-then-next-children-clause-placed
returns-then-next-children-clause-placed g c =
    let fs = opens c.args.self.now.stack in
    let f = opened c.args.frame in
    let p = plain c.index-children-next.result in
    let whole = whole_of c.args.self.now in
    let there = listed_child (plain c.args.frame.node.now) _ c.args.frame.next c.index-children-next.result c.requires.list c.listed-children.ensures (omega (arith, c.if-next-children.true)) c.index-children-next.is in
    placed_by c.args.self.now c.open.new.self _ (record c.args.frame { next = c.args.frame.next + 1 } ∷ c.args.self.now.stack) c.in_ok-open.ensures.tree c.in_ok-open.ensures.stack
    (entered_nested f fs p c.args.at there whole c.requires.rests)
    (entered_sits f fs p c.args.at there whole c.requires.rests, omega (arith, entered_deep f fs p c.args.at there whole c.requires.rests, length-map c.args.self.now.stack opened))

pub returns-then-next-children-clause-falls : goal.returns-then-next-children-clause-falls
returns-then-next-children-clause-falls g c =
    let fs = opens c.args.self.now.stack in
    let f = opened c.args.frame in
    let p = plain c.index-children-next.result in
    let there = listed_child (plain c.args.frame.node.now) _ c.args.frame.next c.index-children-next.result c.requires.list c.listed-children.ensures (omega (arith, c.if-next-children.true)) c.index-children-next.is in
    subst (λ frames. 2 * size p + weight_all (opens frames) ≤ weight_of f + weight_all fs) (sym c.in_ok-open.ensures.stack) (entered_falls f fs p c.args.at there)
