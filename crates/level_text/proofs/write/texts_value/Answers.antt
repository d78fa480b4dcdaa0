use Rattle.std.proofs.Common.{◌∙◌, ap, refl, string_bytes, String, Global, drop, ◌+◌}
use Rattle.serde_json.specs.Data.{array, string}
use Rattle.serde_json.specs.declared.value.Value.TheVariants as value
use Rattle.serde_json.proofs.Views.{view-Array}
use Rattle.game_session.specs.Kept.{texts_view}
use Rattle.level_text.specs.Written.{texts_data}
use Rattle.level_text.specs.Begun.{items_before}
use Rattle.level_text.proofs.ItemsBefore.{view-String}
use Rattle.level_text.proofs.WrittenSteps.{written_more, written_all}
use Rattle.level_text.proofs.write.texts_value.Goals as goal

pub texts-preserved : goal.texts-preserved
texts-preserved c =
    let l = c.texts in
    let t : String Global = c.text-item.result in
    ap (λ vs. items_before vs (texts_data (texts_view (drop (l.text-index + 1) c.args.texts.now)))) c.in_ok-push.ensures.items
    ∙ written_more (λ ts. texts_data (texts_view ts)) (λ t. string (string_bytes t)) (λ _ _. refl) l.values.items (value.String c.in_ok-clone.field-0) c.args.texts.now l.text-index t _
    c.texts-test.true c.text-item.is (view-String c.in_ok-clone.field-0 ∙ ap string c.in_ok-clone.ensures.cases) l.invariant

pub returns : goal.returns
returns c =
    view-Array c.texts.values
    ∙ ap array (written_all (λ ts. texts_data (texts_view ts)) (λ t. string (string_bytes t)) (λ _ _. refl) c.texts.values.items c.args.texts.now c.texts.text-index refl c.texts-test.false _ c.texts.invariant)
