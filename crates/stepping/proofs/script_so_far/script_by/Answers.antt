use Rattle.std.proofs.Common.{◌≡◌, ◌≤◌, ◌<◌, ◌+◌, ◌++◌, ◌∷◌, [], ◌∙◌, ℕ, List, true, false, length, get_or, drop, sym, ap, subst, arith, append-nil}
use Rattle.std.specs.Prelude.{nat_le}
use Rattle.std.proofs.lemmas.Grind.{common_steps}
use Rattle.std.proofs.lemmas.List.{drop_all, get_or_default}
use Rattle.game_rules.specs.declared.change.Change.{Change}
use Rattle.game_session.specs.Changes.{last_frame}
use Rattle.stepping.specs.Played.{AreInOrder, changes_by}
use Rattle.stepping.proofs.SoFar.{taken_more, left_out, in_order_by, last_frame-push}
use Rattle.stepping.proofs.script_so_far.script_by.Goals.{then-change-frame+in_ok-push, else-change-frame}
use Rattle.stepping.proofs.script_so_far.script_by.Goals as goal

pub changes-preserved : goal.changes-preserved
changes-preserved c =
    let cs : List Change = c.args.changes.now in
    let f : ℕ = c.args.frame in
    let i : ℕ = c.changes.change-index in
    let x : Change = c.change-item.result in
    let script : List Change = c.changes.script in
    let inside : i < length cs = c.changes-test.true in
    elim c.if-change-frame.branch [
      | then-change-frame+in_ok-push w ↦
          let up : nat_le x.frame f ≡ true = grind (arith, common_steps, w.if-change-frame.true) in
          let pushed : c.if-change-frame.script ≡ script ++ x ∷ [] = w.script-is ∙ w.in_ok-push.ensures.ok in
          let last : last_frame c.if-change-frame.script ≡ x.frame = ap last_frame pushed ∙ last_frame-push script x in
          record {
            taken =
                ap (λ (l : List Change). l ++ changes_by f (drop (i + 1) cs)) (pushed ∙ ap (λ (y : Change). script ++ y ∷ []) c.change-item.is)
                ∙ taken_more cs script f i x inside (ap (λ (y : Change). nat_le y.frame f) (sym c.change-item.is) ∙ up) ∙ c.changes.invariant.taken;
            rising = λ k d a b.
                let rises : (get_or cs i d).frame ≤ (get_or cs k d).frame = c.requires.rising i k d (omega (arith, a)) b in
                let here : (get_or cs i d).frame ≡ x.frame = ap (λ (y : Change). y.frame) (get_or_default cs i d x inside ∙ sym c.change-item.is) in
                omega (arith, last, rises, here);
          }
      | else-change-frame w ↦
          let behind : nat_le x.frame f ≡ false = grind (arith, common_steps, w.if-change-frame.false) in
          let last : last_frame c.if-change-frame.script ≡ last_frame script = ap last_frame w.script-is in
          record {
            taken =
                ap (λ (l : List Change). l ++ changes_by f (drop (i + 1) cs)) w.script-is
                ∙ ap (λ (l : List Change). script ++ l) (left_out cs f i x inside (ap (λ (y : Change). nat_le y.frame f) (sym c.change-item.is) ∙ behind)) ∙ c.changes.invariant.taken;
            rising = λ k d a b. let rises = c.changes.invariant.rising k d (omega (arith, a)) b in omega (arith, last, rises);
          }
    ]

pub returns-clause-ordered : goal.returns-clause-ordered
returns-clause-ordered c =
    let cs : List Change = c.args.changes.now in
    let over : length cs ≤ c.changes.change-index = omega (arith, c.changes-test.false) in
    let all : c.changes.script ≡ changes_by c.args.frame cs =
    sym (append-nil c.changes.script) ∙ sym (ap (λ (l : List Change). c.changes.script ++ changes_by c.args.frame l) (drop_all c.changes.change-index cs over)) ∙ c.changes.invariant.taken in
    subst AreInOrder (sym all) (in_order_by cs c.args.frame c.requires)
