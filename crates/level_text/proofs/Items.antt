-- The items of an array beside the list of values that they stand for.
use Rattle.std.proofs.Common.{◌≡◌, ℕ, zero, suc, ◌+◌, ◌<◌, ◌≤◌, List, [], ◌∷◌, length, get_or, drop, refl, ap, arith, None}
use Rattle.std.proofs.lemmas.List.{drop_more}
use Rattle.serde_json.specs.View.{view, items_view}
use Rattle.serde_json.specs.Data.{item, no_items}
use Rattle.serde_json.specs.declared.value.Value.{Value}
use Rattle.level_text.specs.Arguments.{only, if_empty}
use Rattle.level_text.specs.Nodes.{child_in}

pub only-two : (vs : List Value) → 2 ≤ length vs → only (items_view vs) ≡ None
only-two [] h = absurd (omega arith)
only-two (v ∷ []) h = absurd (omega arith)
only-two (v ∷ w ∷ vs) h = refl

pub child_in-two : (vs : List Value) → 2 ≤ length vs → child_in (items_view vs) ≡ None
child_in-two [] h = absurd (omega arith)
child_in-two (v ∷ []) h = absurd (omega arith)
child_in-two (v ∷ w ∷ vs) h = refl

pub if_empty-one : {A : Type 0} → (vs : List Value) (a : A) → 1 ≤ length vs → if_empty (items_view vs) a ≡ None
if_empty-one [] a h = absurd (omega arith)
if_empty-one (v ∷ vs) a h = refl

pub items_view-drop : (xs : List Value) (i : ℕ) (d : Value) → i < length xs
    → items_view (drop i xs) ≡ item (view (get_or xs i d)) (items_view (drop (i + 1) xs))
items_view-drop xs i d h = ap items_view (drop_more xs i d h)

pub items_view-end : (xs : List Value) (i : ℕ) → length xs ≤ i → items_view (drop i xs) ≡ no_items
items_view-end [] zero h = refl
items_view-end [] (suc i) h = refl
items_view-end (x ∷ xs) zero h = absurd (omega arith)
items_view-end (x ∷ xs) (suc i) h = items_view-end xs i (omega arith)
