-- Writing the values of a list, one after another.
use Rattle.std.proofs.Common.{◌≡◌, ℕ, zero, suc, ◌+◌, ◌<◌, ◌≤◌, List, [], ◌∷◌, ◌++◌, length, get_or, drop, refl, sym, ap, ◌∙◌, arith}
use Rattle.std.proofs.lemmas.List.{drop_more}
use Rattle.serde_json.specs.Data.{Data, Items, no_items, item}
use Rattle.serde_json.specs.View.{view, items_view}
use Rattle.serde_json.specs.declared.value.Value.{Value}
use Rattle.level_text.specs.Begun.{items_before}
use Rattle.level_text.proofs.ItemsBefore.{items_before-no_items, items_before-push}

pub drop-end : {A : Type 0} (xs : List A) (i : ℕ) → length xs ≤ i → drop i xs ≡ []
drop-end [] zero h = refl
drop-end [] (suc i) h = refl
drop-end (x ∷ xs) zero h = absurd (omega arith)
drop-end (x ∷ xs) (suc i) h = drop-end xs i (omega arith)

pub drop-read : {A : Type 0} (xs : List A) (i : ℕ) (x : A) → i < length xs → x ≡ get_or xs i x → drop i xs ≡ x ∷ drop (i + 1) xs
drop-read xs i x h read = drop_more xs i x h ∙ ap (λ y. y ∷ drop (i + 1) xs) (sym read)

module _ {A : Type 0} (items : List A → Items) (datum : A → Data) (cons : (x : A) (xs : List A) → items (x ∷ xs) ≡ item (datum x) (items xs)) where
  -- one more value was written
  pub written_more : (vs : List Value) (v : Value) (xs : List A) (i : ℕ) (x : A) (all : Items) → i < length xs → x ≡ get_or xs i x → view v ≡ datum x
      → items_before vs (items (drop i xs)) ≡ all → items_before (vs ++ v ∷ []) (items (drop (i + 1) xs)) ≡ all
  written_more vs v xs i x all h read seen before =
      items_before-push vs v (items (drop (i + 1) xs)) ∙ ap (λ d. items_before vs (item d (items (drop (i + 1) xs)))) seen
      ∙ ap (items_before vs) (sym (cons x (drop (i + 1) xs))) ∙ sym (ap (λ ys. items_before vs (items ys)) (drop-read xs i x h read)) ∙ before

  pub written_all : (vs : List Value) (xs : List A) (i : ℕ) → items [] ≡ no_items → length xs ≤ i → (all : Items) → items_before vs (items (drop i xs)) ≡ all → items_view vs ≡ all
  written_all vs xs i empty h all before =
      sym (items_before-no_items vs) ∙ ap (items_before vs) (sym empty) ∙ sym (ap (λ ys. items_before vs (items ys)) (drop-end xs i h)) ∙ before
