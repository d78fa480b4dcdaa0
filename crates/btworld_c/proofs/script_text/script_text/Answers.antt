use Rattle.std.proofs.Common.{◌≡◌, ◌<◌, ◌≤◌, ◌++◌, ◌∙◌, ℕ, List, length, get_or, sym, ap, arith, append-nil}
use Rattle.std.proofs.lemmas.List.{drop_all}
use Rattle.game_rules.specs.declared.change.Change.{Change}
use Rattle.btworld_c.specs.Scripts.{changes_text}
use Rattle.btworld_c.proofs.ScriptText.{written_more, nameable_more, text_spells}
use Rattle.btworld_c.proofs.script_text.script_text.Goals as goal

pub changes-preserved : goal.changes-preserved
changes-preserved c =
    let cs : List Change = c.args.script.now in
    let i : ℕ = c.changes.change-index in
    let x : Change = c.change-item.result in
    let are : c.changes-change-items.result.now ≡ cs = c.changes-change-items.ensures in
    let at : get_or cs i x ≡ x = sym (c.change-item.is ∙ ap (λ (l : List Change). get_or l i x) are) in
    let inside : i < length cs = omega (arith, c.changes-test.true, ap (λ (l : List Change). length l) are) in
    let first : 0 < (get_or cs i x).frame = c.requires.first i x inside in
    let frame : (get_or cs i x).frame ≡ x.frame = ap (λ (y : Change). y.frame) at in
    record {
      written = written_more cs i c.changes.text.items c.push_change.new.text.items (changes_text cs) x x inside at c.in-Ok.ensures.text c.changes.invariant.written;
      nameable = nameable_more cs i x c.changes.invariant.nameable at (record {
        some = omega (arith, first, frame);
        few = omega (arith, c.if-change-gt-LAST.false);
        small = c.in-Ok.ensures.letter;
      });
    }

pub returns-clause-spells : goal.returns-clause-spells
returns-clause-spells c =
    let cs : List Change = c.args.script.now in
    let i : ℕ = c.changes.change-index in
    let text : List ℕ = c.changes.text.items in
    let over : length cs ≤ i = omega (arith, c.changes-test.false, ap (λ (l : List Change). length l) c.changes-change-items.ensures) in
    text_spells text cs (sym (append-nil text) ∙ sym (ap (λ (r : List Change). text ++ changes_text r) (drop_all i cs over)) ∙ c.changes.invariant.written) c.requires
    (λ k d l. c.changes.invariant.nameable k d (omega (arith, l, over)) l)
