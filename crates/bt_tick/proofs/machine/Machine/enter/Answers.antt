use Rattle.std.proofs.Common.{◌≤◌, ◌+◌, ◌*◌, ap, ◌∙◌, sym, subst, drop, length, arith}
use Rattle.std.proofs.lemmas.List.{length-map}
use Rattle.bt_nodes.specs.Plain.{plain}
use Rattle.bt_nodes.specs.Sizes.{size}
use Rattle.game_rules.specs.Tick.{tick}
use Rattle.bt_tick.specs.Suspended.{unwind}
use Rattle.bt_tick.specs.Places.{Nested, weight_of, weight_all}
use Rattle.bt_tick.specs.Machine.{opens, opened, whole_of, with_parts}
use Rattle.bt_tick.proofs.Forests.{child_at, replaced}
use Rattle.bt_tick.proofs.Nests.{entered_keeps, entered_sits, entered_deep, entered_nested, entered_falls}
use Rattle.bt_tick.proofs.SmallNumbers.{next_small}
use Rattle.bt_tick.proofs.machine.Machine.enter.Goals as goal

pub overflow_add-next : goal.overflow_add-next
overflow_add-next g c = omega (arith, next_small c.args.self.now.tree.now (plain c.args.frame.node.now) c.args.frame.number c.requires.rests.0.sits c.args.frame.next c.requires.rests.0.begun)

pub returns-clause-keeps : goal.returns-clause-keeps
returns-clause-keeps g c v s =
    let rest = drop 1 c.args.self.now.stack in
    let parts = with_parts c.args.self.now.memory c.args.self.now.wants.items s in
    let there = child_at (plain c.args.frame.node.now) _ c.args.frame.next c.index-children-next.result c.requires.children c.requires.next c.index-children-next.is in
    ap (λ fs. unwind v (opens fs) (tick v (plain c.index-children-next.result) c.args.at parts)) (replaced _ _ _ _ c.requires.some c.replace_top.ensures)
    ∙ entered_keeps (opened c.args.frame) (opens rest) (plain c.index-children-next.result) c.args.at there v c.requires.list c.requires.rests.0.following parts

pub returns-clause-placed : goal.returns-clause-placed
returns-clause-placed g c =
    let rest = drop 1 c.args.self.now.stack in
    let there = child_at (plain c.args.frame.node.now) _ c.args.frame.next c.index-children-next.result c.requires.children c.requires.next c.index-children-next.is in
    let e = replaced _ _ _ _ c.requires.some c.replace_top.ensures in
    let f = opened c.args.frame in
    let p = plain c.index-children-next.result in
    record {
      nested = subst (λ fs. Nested (whole_of c.args.self.now) (c.args.at + size p) (opens fs)) (sym e) (entered_nested f (opens rest) p c.args.at there (whole_of c.args.self.now) c.requires.rests);
      stands = (entered_sits f (opens rest) p c.args.at there (whole_of c.args.self.now) c.requires.rests, omega (arith, entered_deep f (opens rest) p c.args.at there (whole_of c.args.self.now) c.requires.rests, length-map rest opened, ap length e));
    }

pub returns-clause-falls : goal.returns-clause-falls
returns-clause-falls g c =
    let rest = drop 1 c.args.self.now.stack in
    let f = opened c.args.frame in
    let p = plain c.index-children-next.result in
    let there = child_at (plain c.args.frame.node.now) _ c.args.frame.next c.index-children-next.result c.requires.children c.requires.next c.index-children-next.is in
    subst (λ fs. 2 * size p + weight_all (opens fs) ≤ weight_of f + weight_all (opens rest)) (sym (replaced _ _ _ _ c.requires.some c.replace_top.ensures)) (entered_falls f (opens rest) p c.args.at there)
