-- The names of an object's trees are its keys, which a map keeps in order.
use Rattle.std.proofs.Common.{◌≡◌, ℕ, List, [], ◌∷◌, ◌++◌, map, true, Less, Option, Some, None, option_map, option_and_then, String, Global, string_bytes, string_cmp, refl, sym, ap, ◌∙◌, append-nil}
use Rattle.std.specs.List.{AllByRecursion, list_all}
use Rattle.std.specs.List.Sorted.{IsStrictlySortedBy}
use Rattle.std.specs.Map.{keys_of}
use Rattle.serde_json.specs.View.{view, members_view}
use Rattle.serde_json.proofs.Views.{Entry}
use Rattle.bt_nodes.specs.Plain.{Plain}
use Rattle.level_text.specs.Nodes.{node_of}
use Rattle.game_session.specs.Parts.{NamedPlain, named}
use Rattle.level_text.specs.Parts.{trees_in}
use Rattle.game_session.specs.Names.{is_before, is_in_order, names_of}
use Rattle.level_text.specs.Drafts.{node_view}
use Rattle.level_text.specs.declared.draft.NamedNode.{NamedNode}

abbrev pub keys_in : List Entry → List (List ℕ)
keys_in es = map (λ e. string_bytes e.0) es

one_more_name : (k : List ℕ) (o : Option Plain) (rest : Option (List NamedPlain)) (ts : List NamedPlain) (ks : List (List ℕ))
    → ((us : List NamedPlain) → rest ≡ Some us → names_of us ≡ ks)
    → option_and_then (λ p. option_map (λ us. named k p ∷ us) rest) o ≡ Some ts → names_of ts ≡ k ∷ ks
one_more_name k None rest ts ks h e = cc
one_more_name k (Some p) None ts ks h e = cc
one_more_name k (Some p) (Some us) ts ks h e =
    let same : named k p ∷ us ≡ ts = cc in
    ap names_of (sym same) ∙ ap (λ ns. k ∷ ns) (h us refl)

names_of-trees_in : (es : List Entry) (ts : List NamedPlain) → trees_in (members_view es) ≡ Some ts → names_of ts ≡ keys_in es
names_of-trees_in [] ts e = let same : [] ≡ ts = cc in ap names_of (sym same)
names_of-trees_in (e ∷ es) ts h =
    one_more_name (string_bytes e.0) (node_of (view e.1)) (trees_in (members_view es)) ts (keys_in es) (names_of-trees_in es) h

is_before-all : (k : String Global) (es : List Entry) → AllByRecursion (λ y. string_cmp k y ≡ Less) (keys_of es) → list_all (is_before (string_bytes k)) (keys_in es) ≡ true
is_before-all k [] h = refl
is_before-all k (e ∷ es) h = rw h.0 (is_before-all k es h.1)

is_in_order-keys_in : (es : List Entry) → IsStrictlySortedBy string_cmp (keys_of es) → is_in_order (keys_in es) ≡ true
unfolding IsStrictlySortedBy
is_in_order-keys_in [] h = refl
is_in_order-keys_in (e ∷ es) h = rw (is_before-all e.0 es h.0) (is_in_order-keys_in es h.1)

-- all trees were read
pub names_in_order : (es left : List Entry) (ts : List NamedNode) → IsStrictlySortedBy string_cmp (keys_of es) → left ≡ []
    → option_map (λ us. map node_view ts ++ us) (trees_in (members_view left)) ≡ trees_in (members_view es)
    → is_in_order (names_of (map node_view ts)) ≡ true
names_in_order es left ts sorted none read =
    let all : trees_in (members_view es) ≡ Some (map node_view ts) =
    sym read ∙ ap (λ l. option_map (λ us. map node_view ts ++ us) (trees_in (members_view l))) none ∙ ap Some (append-nil (map node_view ts)) in
    ap is_in_order (names_of-trees_in es (map node_view ts) all) ∙ is_in_order-keys_in es sorted
