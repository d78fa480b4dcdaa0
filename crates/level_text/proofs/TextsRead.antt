-- Reading the texts of an array, one after another.
use Rattle.std.proofs.Common.{◌≡◌, ℕ, ◌+◌, ◌<◌, ◌≤◌, List, [], ◌∷◌, ◌++◌, length, get_or, drop, map, Option, Some, None, option_map, option_and_then, append_assoc, append-nil, String, Global, string_bytes, refl, sym, ap, ◌∙◌}
use Rattle.std.proofs.lemmas.List.{map-append}
use Rattle.serde_json.specs.Find.{as_str}
use Rattle.serde_json.specs.View.{view, items_view}
use Rattle.serde_json.specs.declared.value.Value.{Value}
use Rattle.level_text.specs.Parts.{texts_in}
use Rattle.level_text.proofs.Items.{items_view-end}
use Rattle.level_text.proofs.WrittenSteps.{drop-read}

texts-push : (ss : List (String Global)) (s : String Global) (left : Option (List (List ℕ)))
    → option_map (λ us. map string_bytes (ss ++ s ∷ []) ++ us) left ≡ option_map (λ us. map string_bytes ss ++ us) (option_map (λ us. string_bytes s ∷ us) left)
texts-push ss s None = refl
texts-push ss s (Some us) =
    ap Some (ap (λ xs. xs ++ us) (map-append string_bytes ss (s ∷ [])) ∙ append_assoc (map string_bytes ss) (string_bytes s ∷ []) us)

-- one more text was read
pub text_more : (ss : List (String Global)) (s : String Global) (vs : List Value) (i : ℕ) (v : Value) (all : Option (List (List ℕ))) → i < length vs → v ≡ get_or vs i v
    → Some (string_bytes s) ≡ as_str (view v) → option_map (λ us. map string_bytes ss ++ us) (texts_in (items_view (drop i vs))) ≡ all
    → option_map (λ us. map string_bytes (ss ++ s ∷ []) ++ us) (texts_in (items_view (drop (i + 1) vs))) ≡ all
text_more ss s vs i v all h read found before =
    let left = texts_in (items_view (drop (i + 1) vs)) in
    let step : texts_in (items_view (drop i vs)) ≡ option_map (λ us. string_bytes s ∷ us) left =
    ap (λ xs. texts_in (items_view xs)) (drop-read vs i v h read) ∙ ap (option_and_then (λ t. option_map (λ us. t ∷ us) left)) (sym found) in
    texts-push ss s left ∙ ap (option_map (λ us. map string_bytes ss ++ us)) (sym step) ∙ before

pub text_all : (ss : List (String Global)) (vs : List Value) (i : ℕ) (all : Option (List (List ℕ))) → length vs ≤ i
    → option_map (λ us. map string_bytes ss ++ us) (texts_in (items_view (drop i vs))) ≡ all → Some (map string_bytes ss) ≡ all
text_all ss vs i all h before =
    ap Some (sym (append-nil (map string_bytes ss))) ∙ sym (ap (λ ds. option_map (λ us. map string_bytes ss ++ us) (texts_in ds)) (items_view-end vs i h)) ∙ before
