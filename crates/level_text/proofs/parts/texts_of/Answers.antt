use Rattle.std.proofs.Common.{◌≡◌, ◌∙◌, ap, sym, map, option_map, drop, ◌+◌, ◌++◌, Some, string_bytes}
use Rattle.serde_json.specs.Find.{as_str}
use Rattle.serde_json.specs.View.{view, items_view}
use Rattle.serde_json.proofs.Views.{view-Array}
use Rattle.level_text.specs.Parts.{texts_in, texts_of}
use Rattle.level_text.proofs.TextsRead.{text_more, text_all}
use Rattle.level_text.proofs.parts.texts_of.Goals as goal

pub items-preserved : goal.items-preserved
items-preserved c =
    let l = c.items in
    let vs = c.deref-item-items.result.now in
    let found : Some (string_bytes c.in_ok-from_str.field-0) ≡ as_str (view c.item-item.result) = ap Some c.in_ok-from_str.ensures.ok ∙ c.in-Some.ensures in
    ap (λ ss. option_map (λ us. map string_bytes ss ++ us) (texts_in (items_view (drop (l.item-index + 1) vs)))) c.in_ok-push.ensures.items
    ∙ text_more l.texts.items c.in_ok-from_str.field-0 vs l.item-index c.item-item.result _ c.items-test.true c.item-item.is found l.invariant

pub returns : goal.returns
returns c =
    text_all c.items.texts.items c.deref-item-items.result.now c.items.item-index _ c.items-test.false c.items.invariant
    ∙ ap (λ vs. texts_in (items_view vs)) c.deref-item-items.ensures.value ∙ sym (ap texts_of (ap view c.in-Array.is ∙ view-Array c.in-Array.items))
