-- Reading the trees of an object, one after another.
use Rattle.std.proofs.Common.{◌≡◌, List, [], ◌∷◌, ◌++◌, map, Option, Some, None, option_map, append_assoc, string_bytes, refl, ap, ◌∙◌}
use Rattle.std.proofs.lemmas.List.{map-append}
use Rattle.serde_json.specs.View.{view, members_view}
use Rattle.serde_json.proofs.Views.{Entry}
use Rattle.bt_nodes.specs.Plain.{plain}
use Rattle.level_text.specs.Nodes.{node_of}
use Rattle.game_session.specs.Parts.{NamedPlain}
use Rattle.level_text.specs.Parts.{trees_in}
use Rattle.level_text.specs.Drafts.{node_view}
use Rattle.level_text.specs.declared.draft.NamedNode.{NamedNode}

node_view-push : (ts : List NamedNode) (t : NamedNode) (left : Option (List NamedPlain))
    → option_map (λ us. map node_view (ts ++ t ∷ []) ++ us) left ≡ option_map (λ us. map node_view ts ++ us) (option_map (λ us. node_view t ∷ us) left)
node_view-push ts t None = refl
node_view-push ts t (Some us) = ap Some (ap (λ xs. xs ++ us) (map-append node_view ts (t ∷ [])) ∙ append_assoc (map node_view ts) (node_view t ∷ []) us)

-- one more tree was read
pub tree_more : (ts : List NamedNode) (t : NamedNode) (e : Entry) (left : List Entry) (all : Option (List NamedPlain))
    → string_bytes t.name ≡ string_bytes e.0 → Some (plain t.node) ≡ node_of (view e.1)
    → option_map (λ us. map node_view ts ++ us) (trees_in (members_view (e ∷ left))) ≡ all
    → option_map (λ us. map node_view (ts ++ t ∷ []) ++ us) (trees_in (members_view left)) ≡ all
tree_more ts t e left all named found h =
    node_view-push ts t (trees_in (members_view left)) ∙ ap (option_map (λ us. map node_view ts ++ us)) (rw (named, ← found) refl) ∙ h
