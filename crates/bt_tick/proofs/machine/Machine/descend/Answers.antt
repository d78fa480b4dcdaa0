use Rattle.std.proofs.Common.{◌+◌, ◌<◌, ap, sym, ◌∙◌, subst, arith, refl}
use Rattle.std.proofs.lemmas.List.{length-map}
use Rattle.bt_nodes.specs.declared.node.Status.TheVariants.{Failure}
use Rattle.bt_nodes.specs.Plain.{Seq, Fallback, Star, Wait, none, tree, plain, plains}
use Rattle.bt_nodes.proofs.Views.{plain-Seq, plain-Fallback, plain-SeqStar, plain-FallbackStar, plain-Not, plain-Tries, plain-Ticks}
use Rattle.game_rules.specs.Tick.{gives}
use Rattle.bt_tick.specs.Children.{children_of}
use Rattle.bt_tick.specs.Kinds.{HasList}
use Rattle.bt_tick.specs.Suspended.{unwind}
use Rattle.bt_tick.specs.Places.{limit_of, weight_all}
use Rattle.bt_tick.specs.Views.{view_of}
use Rattle.bt_tick.specs.Machine.{opened, opens, whole_of, with_parts}
use Rattle.bt_tick.proofs.Trees.{size-children}
use Rattle.bt_tick.proofs.Opening.{if_ok, first_rests, only_stands, placed_by}
use Rattle.bt_tick.proofs.Beginning.{plain-Wait, line_begins, not_begins, tries_begins, tries_over, ticks_begins, ticks_over, ticks_as, answered_nested, answered_falls}
use Rattle.bt_tick.proofs.machine.Machine.descend.Goals as goal

pub open_list-requires : goal.open_list-requires
open_list-requires g c =
    let list : HasList (plain c.args.node.now) = subst HasList (sym (ap plain c.in-Seq.is ∙ plain-Seq c.in-Seq.field-0)) tt in
    record { rests = first_rests (whole_of c.args.self.now) (plain c.args.node.now) c.args.number (opens c.args.self.now.stack) list c.requires.sits (omega (arith, c.requires.deep, length-map c.args.self.now.stack opened)) c.requires.nested; list = list }

pub returns-in-Seq : goal.returns-in-Seq
returns-in-Seq g c =
    record {
      keeps = if_ok c.open_list.result (λ m h s. h (view_of c.args.view.now) s ∙ ap (unwind (view_of c.args.view.now) (opens c.args.self.now.stack)) (line_begins (view_of c.args.view.now) (plain c.args.node.now) c.args.number (with_parts c.args.self.now.memory c.args.self.now.wants.items s) Seq (plains c.in-Seq.field-0.items) (ap plain c.in-Seq.is ∙ plain-Seq c.in-Seq.field-0))) c.open_list.ensures.keeps;
      placed = c.open_list.ensures.placed;
      falls = if_ok c.open_list.result (λ m h. omega (arith, h, size-children (plain c.args.node.now))) c.open_list.ensures.falls;
      tree = c.open_list.ensures.tree;
    }

pub open_list-requires-in-Fallback : goal.open_list-requires-in-Fallback
open_list-requires-in-Fallback g c =
    let list : HasList (plain c.args.node.now) = subst HasList (sym (ap plain c.in-Fallback.is ∙ plain-Fallback c.in-Fallback.field-0)) tt in
    record { rests = first_rests (whole_of c.args.self.now) (plain c.args.node.now) c.args.number (opens c.args.self.now.stack) list c.requires.sits (omega (arith, c.requires.deep, length-map c.args.self.now.stack opened)) c.requires.nested; list = list }

pub returns-in-Fallback : goal.returns-in-Fallback
returns-in-Fallback g c =
    record {
      keeps = if_ok c.open_list-in-Fallback.result (λ m h s. h (view_of c.args.view.now) s ∙ ap (unwind (view_of c.args.view.now) (opens c.args.self.now.stack)) (line_begins (view_of c.args.view.now) (plain c.args.node.now) c.args.number (with_parts c.args.self.now.memory c.args.self.now.wants.items s) Fallback (plains c.in-Fallback.field-0.items) (ap plain c.in-Fallback.is ∙ plain-Fallback c.in-Fallback.field-0))) c.open_list-in-Fallback.ensures.keeps;
      placed = c.open_list-in-Fallback.ensures.placed;
      falls = if_ok c.open_list-in-Fallback.result (λ m h. omega (arith, h, size-children (plain c.args.node.now))) c.open_list-in-Fallback.ensures.falls;
      tree = c.open_list-in-Fallback.ensures.tree;
    }

pub open_star-requires : goal.open_star-requires
open_star-requires g c =
    record {
      star = (Seq, ap plain c.in-SeqStar.is ∙ plain-SeqStar c.in-SeqStar.children ∙ ap (λ xs. Star Seq (plains xs)) (sym c.deref.ensures.value));
      sits = c.requires.sits;
      deep = c.requires.deep;
      nested = c.requires.nested;
    }

pub returns-in-SeqStar : goal.returns-in-SeqStar
returns-in-SeqStar g c =
    record {
      keeps = if_ok c.open_star.result (λ m h. h (view_of c.args.view.now)) c.open_star.ensures.keeps;
      placed = c.open_star.ensures.placed;
      falls = c.open_star.ensures.falls;
      tree = c.open_star.ensures.tree;
    }

pub open_star-requires-in-FallbackStar : goal.open_star-requires-in-FallbackStar
open_star-requires-in-FallbackStar g c =
    record {
      star = (Fallback, ap plain c.in-FallbackStar.is ∙ plain-FallbackStar c.in-FallbackStar.children ∙ ap (λ xs. Star Fallback (plains xs)) (sym c.deref-in-FallbackStar.ensures.value));
      sits = c.requires.sits;
      deep = c.requires.deep;
      nested = c.requires.nested;
    }

pub returns-in-FallbackStar : goal.returns-in-FallbackStar
returns-in-FallbackStar g c =
    record {
      keeps = if_ok c.open_star-in-FallbackStar.result (λ m h. h (view_of c.args.view.now)) c.open_star-in-FallbackStar.ensures.keeps;
      placed = c.open_star-in-FallbackStar.ensures.placed;
      falls = c.open_star-in-FallbackStar.ensures.falls;
      tree = c.open_star-in-FallbackStar.ensures.tree;
    }

pub open_only-requires : goal.open_only-requires
open_only-requires g c =
    let only = ap children_of (ap plain c.in-Not.is ∙ plain-Not c.in-Not.child) ∙ ap (λ n. tree (plain n) none) (sym c.deref-in-Not.ensures) in
    record {
      only = only;
      stands = only_stands (whole_of c.args.self.now) (record { node = plain c.args.node.now; number = c.args.number; next = 1; won = 0; lost = 0 }) (plain c.deref-in-Not.result.now) _ only c.requires.sits refl
          (subst (λ p. 0 + 0 < limit_of p 1) (sym (ap plain c.in-Not.is ∙ plain-Not c.in-Not.child)) (omega arith)) (omega (arith, c.requires.deep, length-map c.args.self.now.stack opened));
      begun = refl;
      nested = c.requires.nested;
    }

pub returns-in-Not : goal.returns-in-Not
returns-in-Not g c =
    record {
      keeps = if_ok c.open_only.result (λ m h s. h (view_of c.args.view.now) s ∙ ap (unwind (view_of c.args.view.now) (opens c.args.self.now.stack)) (not_begins (view_of c.args.view.now) (plain c.args.node.now) c.args.number (with_parts c.args.self.now.memory c.args.self.now.wants.items s) (plain c.in-Not.child.value) (plain c.deref-in-Not.result.now) (ap plain c.in-Not.is ∙ plain-Not c.in-Not.child) (ap plain c.deref-in-Not.ensures))) c.open_only.ensures.keeps;
      placed = c.open_only.ensures.placed;
      falls = c.open_only.ensures.falls;
      tree = c.open_only.ensures.tree;
    }

pub returns-then-failures-most : goal.returns-then-failures-most
returns-then-failures-most g c =
    record {
      keeps = λ s. ap (unwind (view_of c.args.view.now) (opens c.args.self.now.stack)) (tries_over (view_of c.args.view.now) (plain c.args.node.now) c.args.number (with_parts c.args.self.now.memory c.args.self.now.wants.items s) c.in-Tries.most c.number-failures.result c.number-failures.ensures (plain c.in-Tries.child.value) (ap plain c.in-Tries.is ∙ plain-Tries c.in-Tries.most c.in-Tries.child) c.if-failures-most.true);
      placed = placed_by c.args.self.now _ _ c.args.self.now.stack refl refl (answered_nested (whole_of c.args.self.now) _ c.args.number (plain c.args.node.now) (opens c.args.self.now.stack) (c.number_after.ensures (plain c.args.node.now) c.requires.sits) c.requires.nested) tt;
      falls = answered_falls (plain c.args.node.now) (weight_all (opens c.args.self.now.stack));
      tree = refl;
    }

pub open_only-requires-in-Tries : goal.open_only-requires-in-Tries
open_only-requires-in-Tries g c =
    let only = ap children_of (ap plain c.in-Tries.is ∙ plain-Tries c.in-Tries.most c.in-Tries.child) ∙ ap (λ n. tree (plain n) none) (sym c.deref-in-Tries.ensures) in
    record {
      only = only;
      stands = only_stands (whole_of c.args.self.now) (record { node = plain c.args.node.now; number = c.args.number; next = 1; won = 0; lost = c.number-failures.result }) (plain c.deref-in-Tries.result.now) _ only c.requires.sits refl
          (subst (λ p. 0 + c.number-failures.result < limit_of p 1) (sym (ap plain c.in-Tries.is ∙ plain-Tries c.in-Tries.most c.in-Tries.child)) (omega (arith, c.if-failures-most.false))) (omega (arith, c.requires.deep, length-map c.args.self.now.stack opened));
      begun = refl;
      nested = c.requires.nested;
    }

pub returns-else-failures-most : goal.returns-else-failures-most
returns-else-failures-most g c =
    record {
      keeps = if_ok c.open_only-in-Tries.result (λ m h s. h (view_of c.args.view.now) s ∙ ap (unwind (view_of c.args.view.now) (opens c.args.self.now.stack)) (tries_begins (view_of c.args.view.now) (plain c.args.node.now) c.args.number (with_parts c.args.self.now.memory c.args.self.now.wants.items s) c.in-Tries.most c.number-failures.result c.number-failures.ensures (plain c.in-Tries.child.value) (plain c.deref-in-Tries.result.now) (ap plain c.in-Tries.is ∙ plain-Tries c.in-Tries.most c.in-Tries.child) (ap plain c.deref-in-Tries.ensures) (omega (arith, c.if-failures-most.false)))) c.open_only-in-Tries.ensures.keeps;
      placed = c.open_only-in-Tries.ensures.placed;
      falls = c.open_only-in-Tries.ensures.falls;
      tree = c.open_only-in-Tries.ensures.tree;
    }

pub returns-then-past-most : goal.returns-then-past-most
returns-then-past-most g c =
    record {
      keeps = λ s. ap (λ m. unwind (view_of c.args.view.now) (opens c.args.self.now.stack) (gives Failure (with_parts m c.args.self.now.wants.items s))) c.set.ensures ∙ ap (unwind (view_of c.args.view.now) (opens c.args.self.now.stack)) (ticks_over (view_of c.args.view.now) (plain c.args.node.now) c.args.number (with_parts c.args.self.now.memory c.args.self.now.wants.items s) c.in-Ticks.most c.number-past.result c.number-past.ensures (plain c.in-Ticks.child.value) (ap plain c.in-Ticks.is ∙ plain-Ticks c.in-Ticks.most c.in-Ticks.child) c.if-past-most.true);
      placed = placed_by c.args.self.now _ _ c.args.self.now.stack refl refl (answered_nested (whole_of c.args.self.now) _ c.args.number (plain c.args.node.now) (opens c.args.self.now.stack) (c.number_after-then-past-most.ensures (plain c.args.node.now) c.requires.sits) c.requires.nested) tt;
      falls = answered_falls (plain c.args.node.now) (weight_all (opens c.args.self.now.stack));
      tree = refl;
    }

pub open_only-requires-in-Ticks : goal.open_only-requires-in-Ticks
open_only-requires-in-Ticks g c =
    let only = ap children_of (ap plain c.in-Ticks.is ∙ plain-Ticks c.in-Ticks.most c.in-Ticks.child) ∙ ap (λ n. tree (plain n) none) (sym c.deref-in-Ticks.ensures) in
    record {
      only = only;
      stands = only_stands (whole_of c.args.self.now) (record { node = plain c.args.node.now; number = c.args.number; next = 1; won = 0; lost = c.number-past.result }) (plain c.deref-in-Ticks.result.now) _ only c.requires.sits refl
          (subst (λ p. 0 + c.number-past.result < limit_of p 1) (sym (ap plain c.in-Ticks.is ∙ plain-Ticks c.in-Ticks.most c.in-Ticks.child)) (omega (arith, c.if-past-most.false))) (omega (arith, c.requires.deep, length-map c.args.self.now.stack opened));
      begun = refl;
      nested = c.requires.nested;
    }

pub returns-else-past-most : goal.returns-else-past-most
returns-else-past-most g c =
    record {
      keeps = if_ok c.open_only-in-Ticks.result (λ m h s. h (view_of c.args.view.now) s ∙ ap (unwind (view_of c.args.view.now) (opens c.args.self.now.stack)) (ticks_begins (view_of c.args.view.now) (plain c.args.node.now) c.args.number (with_parts c.args.self.now.memory c.args.self.now.wants.items s) c.in-Ticks.most c.number-past.result c.number-past.ensures (plain c.in-Ticks.child.value) (plain c.deref-in-Ticks.result.now) (ap plain c.in-Ticks.is ∙ plain-Ticks c.in-Ticks.most c.in-Ticks.child) (ap plain c.deref-in-Ticks.ensures) (omega (arith, c.if-past-most.false)))) c.open_only-in-Ticks.ensures.keeps;
      placed = c.open_only-in-Ticks.ensures.placed;
      falls = c.open_only-in-Ticks.ensures.falls;
      tree = c.open_only-in-Ticks.ensures.tree;
    }

pub returns-in-Wait-clause-keeps : goal.returns-in-Wait-clause-keeps
returns-in-Wait-clause-keeps g c s =
    let v = view_of c.args.view.now in
    let now = c.wait-status.new.self in
    let old = c.args.self.now in
    let st = c.wait-status.result in
    ap (λ fs. unwind v (opens fs) (gives st (with_parts now.memory now.wants.items s))) c.wait-status.ensures.stack
    ∙ ap (λ w. unwind v (opens old.stack) (gives st (with_parts now.memory w.items s))) c.wait-status.ensures.wants
    ∙ ap (unwind v (opens old.stack)) (c.wait-status.ensures.ticks v s ∙ ticks_as v (plain c.args.node.now) c.args.number (with_parts old.memory old.wants.items s) (Wait c.in-Wait.most) (ap plain c.in-Wait.is ∙ plain-Wait _ c.in-Wait.most))
