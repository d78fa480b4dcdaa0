-- Values that were written, before items that are left.
use Rattle.std.proofs.Common.{◌≡◌, List, [], ◌∷◌, ◌++◌, String, Global, string_bytes, refl, ap, rules}
use Rattle.serde_json.specs.Data.{Items, no_items, item, string}
use Rattle.serde_json.specs.View.{view, items_view}
use Rattle.serde_json.specs.declared.value.Value.{Value, the_lemmas}
use Rattle.serde_json.specs.declared.value.Value.TheVariants as value
use Rattle.level_text.specs.Begun.{items_before}

pub items_before-no_items : (vs : List Value) → items_before vs no_items ≡ items_view vs
items_before-no_items [] = refl
items_before-no_items (v ∷ vs) = ap (item (view v)) (items_before-no_items vs)

pub items_before-push : (vs : List Value) (v : Value) (rest : Items) → items_before (vs ++ v ∷ []) rest ≡ items_before vs (item (view v) rest)
items_before-push [] v rest = refl
items_before-push (w ∷ vs) v rest = ap (item (view w)) (items_before-push vs v rest)

pub view-String : (s : String Global) → view (value.String s) ≡ string (string_bytes s)
view-String s = search (rules, the_lemmas)
