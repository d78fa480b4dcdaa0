use Rattle.std.proofs.Common.{refl, ap, sym, subst, ◌∙◌, arith, []}
use Rattle.std.specs.Prelude.{◌≡◌, Some}
use Rattle.bt_nodes.specs.Plain.{plain}
use Rattle.game_rules.specs.declared.leaf_result.LeafResult.TheVariants.{Says, Wants}
use Rattle.game_rules.specs.Tick.{gives}
use Rattle.bt_tick.specs.Suspended.{unwind}
use Rattle.bt_tick.specs.Views.{view_of}
use Rattle.bt_tick.specs.LeafResults.{deed_of}
use Rattle.bt_tick.specs.Machine.{opens, with_parts, whole_of, Placed}
use Rattle.bt_tick.specs.declared.machine.Mode.TheVariants.{Down}
use Rattle.bt_tick.specs.Outcome.{fresh, machine_left}
use Rattle.bt_tick.proofs.Beginning.{acts, acts_alone, says, answered_nested, wanted_keeps}
use Rattle.bt_tick.proofs.Opening.{down_within, placed_by}
use Rattle.bt_tick.proofs.run.run.Goals as goal

pub overflow_add-after : goal.overflow_add-after
overflow_add-after g c = omega (arith, down_within c.loop-mode.machine c.loop-mode.mode c.in-Down.node c.in-Down.number c.in-Down.is c.loop-mode.invariant.placed)

pub loop-mode-preserved-in_default-node : goal.loop-mode-preserved-in_default-node
loop-mode-preserved-in_default-node g c = record {
  placed = c.in_ok-mode-in-Down-2.ensures.placed;
  nearest = c.leaf_result.ensures.nearest;
  tree = c.in_ok-mode-in-Down-2.ensures.tree ∙ c.loop-mode.invariant.tree;
  keeps = λ more.
      c.in_ok-mode-in-Down-2.ensures.keeps (fresh [] [] more)
      ∙ ap (λ m. machine_left (view_of c.args.view.now) c.loop-mode.machine m more) (sym c.in-Down.is) ∙ c.loop-mode.invariant.keeps more;
}

pub loop-mode-preserved-in-Par : goal.loop-mode-preserved-in-Par
loop-mode-preserved-in-Par g c = record {
  placed = c.in_ok-mode-in-Down.ensures.placed;
  nearest = c.in_ok-mode-in-Down.ensures.nearest;
  tree = c.in_ok-mode-in-Down.ensures.tree ∙ c.loop-mode.invariant.tree;
  keeps = λ more.
      c.in_ok-mode-in-Down.ensures.keeps (fresh [] [] more)
      ∙ ap (λ m. machine_left (view_of c.args.view.now) c.loop-mode.machine m more) (sym c.in-Down.is) ∙ c.loop-mode.invariant.keeps more;
}

pub loop-mode-preserved : goal.loop-mode-preserved
loop-mode-preserved g c =
    let v = view_of c.args.view.now in
    let m = c.loop-mode.machine in
    record {
      placed = c.ascend-mode.ensures.placed;
      nearest = c.loop-mode.invariant.nearest;
      tree = c.ascend-mode.ensures.tree ∙ c.loop-mode.invariant.tree;
      keeps = λ more.
          c.ascend-mode.ensures.keeps v (fresh [] [] more)
          ∙ ap (λ fs. unwind v (opens fs) (gives c.in-Up.status (fresh m.memory m.wants.items more))) (sym c.in-Some-innermost.ensures)
          ∙ ap (λ md. machine_left v m md more) (sym c.in-Up.is) ∙ c.loop-mode.invariant.keeps more;
    }

pub loop-mode-preserved-in-Par-node : goal.loop-mode-preserved-in-Par-node
loop-mode-preserved-in-Par-node g c =
    let v = view_of c.args.view.now in
    let m = c.loop-mode.machine in
    record {
      placed = c.ascend_par-mode.ensures.placed;
      nearest = c.ascend_par-mode.ensures.nearest;
      tree = c.ascend_par-mode.ensures.tree ∙ c.loop-mode.invariant.tree;
      keeps = λ more.
          c.ascend_par-mode.ensures.keeps (fresh [] [] more)
          ∙ ap (λ fs. unwind v (opens fs) (gives c.in-Up.status (fresh m.memory m.wants.items more))) (sym c.in-Some-innermost.ensures)
          ∙ ap (λ md. machine_left v m md more) (sym c.in-Up.is) ∙ c.loop-mode.invariant.keeps more;
    }

pub loop-mode-preserved-in-Says : goal.loop-mode-preserved-in-Says
loop-mode-preserved-in-Says g c =
    let v = view_of c.args.view.now in
    let m = c.loop-mode.machine in
    let p = plain c.in-Down.node.now in
    let is : deed_of v p ≡ Some (Says c.in-Says.holds) = sym c.leaf_result.ensures.leaf_result ∙ c.in-Some.is ∙ ap Some c.in-Says.is in
    let was : Placed m (Down c.in-Down.node c.in-Down.number) = subst (Placed m) c.in-Down.is c.loop-mode.invariant.placed in
    record {
      placed = placed_by m _ _ m.stack refl refl (answered_nested (whole_of m) _ c.in-Down.number p (opens m.stack) (omega (arith, acts_alone v p (Says c.in-Says.holds) is)) was.nested) tt;
      nearest = c.leaf_result.ensures.nearest;
      tree = c.loop-mode.invariant.tree;
      keeps = λ more.
          ap (unwind v (opens m.stack)) (says v p c.in-Down.number (with_parts m.memory m.wants.items (fresh [] [] more)) c.in-Says.holds c.status_of.result is c.status_of.ensures)
          ∙ ap (λ md. machine_left v m md more) (sym c.in-Down.is) ∙ c.loop-mode.invariant.keeps more;
    }

pub loop-mode-preserved-in-Wants : goal.loop-mode-preserved-in-Wants
loop-mode-preserved-in-Wants g c =
    let v = view_of c.args.view.now in
    let m = c.loop-mode.machine in
    let new = c.want.new.self in
    let p = plain c.in-Down.node.now in
    let i = c.in-Wants.intent in
    let is : deed_of v p ≡ Some (Wants i) = sym c.leaf_result.ensures.leaf_result ∙ c.in-Some.is ∙ ap Some c.in-Wants.is in
    let was : Placed m (Down c.in-Down.node c.in-Down.number) = subst (Placed m) c.in-Down.is c.loop-mode.invariant.placed in
    record {
      placed = placed_by m new _ m.stack c.in_ok-want-in-Wants.ensures.tree c.in_ok-want-in-Wants.ensures.stack (answered_nested (whole_of m) _ c.in-Down.number p (opens m.stack) (omega (arith, acts_alone v p (Wants i) is)) was.nested) tt;
      nearest = c.leaf_result.ensures.nearest;
      tree = c.in_ok-want-in-Wants.ensures.tree ∙ c.loop-mode.invariant.tree;
      keeps = λ more.
          wanted_keeps m new i c.in_ok-want-in-Wants.ensures.stack c.in_ok-want-in-Wants.ensures.memory c.in_ok-want-in-Wants.ensures.wants v (fresh [] [] more)
          ∙ ap (unwind v (opens m.stack)) (acts v p c.in-Down.number (with_parts m.memory m.wants.items (fresh [] [] more)) (Wants i) is)
          ∙ ap (λ md. machine_left v m md more) (sym c.in-Down.is) ∙ c.loop-mode.invariant.keeps more;
    }
