-- Writing a node: what its array begins with, and then what lies below it.
use Rattle.std.proofs.Common.{◌≡◌, true, List, [], ◌∷◌, ◌++◌, Some, None, refl, sym, ap, ◌∙◌}
use Rattle.serde_json.specs.Data.{string, array, no_items, item}
use Rattle.serde_json.specs.View.{view, items_view}
use Rattle.serde_json.specs.declared.value.Value.{Value}
use Rattle.bt_nodes.specs.Plain.{Plain, Composite, Star, Par, Not, Tries, Ticks, Wait, Move, Does, Forest}
use Rattle.bt_nodes.specs.Heads.{listed, decorated}
use Rattle.level_text.specs.Begun.{head, own, below, has_own_mark, items_before}
use Rattle.level_text.specs.Marks.{has_marks, all_have_marks}
use Rattle.level_text.specs.Written.{form, own_before, node_data, forest_data}
use Rattle.level_text.proofs.ItemsBefore.{items_before-no_items, items_before-push}

begins : (p : Plain) → form (head p) (own_before (own p) (below p)) ≡ node_data p
begins (Composite kind children) = refl
begins _ = refl

module _ (p : Plain) (first : Value) (seen : view first ≡ string (head p)) where
  pub begun_alone : None ≡ own p → array (item (view first) (below p)) ≡ node_data p
  begun_alone e = ap (λ d. array (item d (below p))) seen ∙ ap (λ o. form (head p) (own_before o (below p))) e ∙ begins p

  pub begun_with : (second : Value) → Some (view second) ≡ own p → array (item (view first) (item (view second) (below p))) ≡ node_data p
  begun_with second e = ap (λ d. array (item d (item (view second) (below p)))) seen ∙ ap (λ o. form (head p) (own_before o (below p))) e ∙ begins p

-- what lies below a node that decorates a child
pub below_decorated : (p c : Plain) → Some c ≡ decorated p → item (node_data c) no_items ≡ below p
below_decorated (Not d) c e = let same : c ≡ d = cc in ap (λ c. item (node_data c) no_items) same
below_decorated (Tries n d) c e = let same : c ≡ d = cc in ap (λ c. item (node_data c) no_items) same
below_decorated (Ticks n d) c e = let same : c ≡ d = cc in ap (λ c. item (node_data c) no_items) same
below_decorated _ c e = absurd (cc)

pub below_listed : (p : Plain) → None ≡ decorated p → forest_data (listed p) ≡ below p
below_listed (Not d) e = absurd (cc)
below_listed (Tries n d) e = absurd (cc)
below_listed (Ticks n d) e = absurd (cc)
below_listed _ e = refl

-- marks of a node, from its own and those below
pub marks_decorated : (p c : Plain) → Some c ≡ decorated p → has_marks c ≡ true → has_marks p ≡ true
marks_decorated (Not d) c e h = let same : d ≡ c = cc in ap has_marks same ∙ h
marks_decorated (Tries n d) c e h = let same : d ≡ c = cc in ap has_marks same ∙ h
marks_decorated (Ticks n d) c e h = let same : d ≡ c = cc in ap has_marks same ∙ h
marks_decorated _ c e h = absurd (cc)

pub marks_listed : (p : Plain) → None ≡ decorated p → has_own_mark p ≡ true → all_have_marks (listed p) ≡ true → has_marks p ≡ true
marks_listed (Composite kind cs) e own h = h
marks_listed (Star kind cs) e own h = h
marks_listed (Par m cs) e own h = h
marks_listed (Wait n) e own h = own
marks_listed (Move place) e own h = own
marks_listed (Does leaf) e own h = own
marks_listed _ e own h = absurd (cc)

-- what was begun, with what lies below
pub closed_decorated : (vs : List Value) (v : Value) (p c : Plain) → Some c ≡ decorated p → view v ≡ node_data c → items_view (vs ++ v ∷ []) ≡ items_before vs (below p)
closed_decorated vs v p c e seen =
    sym (items_before-no_items (vs ++ v ∷ [])) ∙ items_before-push vs v no_items ∙ ap (λ d. items_before vs (item d no_items)) seen ∙ ap (items_before vs) (below_decorated p c e)

pub closed_listed : (vs : List Value) (p : Plain) (cs : Forest) → None ≡ decorated p → cs ≡ listed p → items_before vs (forest_data cs) ≡ items_before vs (below p)
closed_listed vs p cs e l = ap (λ f. items_before vs (forest_data f)) l ∙ ap (items_before vs) (below_listed p e)
