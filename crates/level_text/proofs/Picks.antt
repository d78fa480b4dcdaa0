-- Looking for the tree of each agent's name.
use Rattle.std.proofs.Common.{◌≡◌, ℕ, suc, ◌+◌, ◌<◌, List, [], ◌∷◌, ◌++◌, length, get_or, drop, map, Bool, true, false, not, is_some, cond, ltb, Option, Some, None, position, String, Global, string_bytes, bytes_eq, append_assoc, add-one, refl, sym, ap, ◌∙◌}
use Rattle.std.proofs.lemmas.List.{drop_more, length-map}
use Rattle.std.specs.List.{position_or_len}
use Rattle.game_session.specs.Parts.{NamedPlain}
use Rattle.game_session.specs.Faults.{Fault, is_named, agent_fault, no_tree}
use Rattle.game_session.specs.Kept.{tree_view, trees_view, texts_view, index_of}
use Rattle.game_session.specs.declared.named_tree.NamedTree.{NamedTree}

same_place : (n : ℕ) (b : Bool) (i : ℕ) → Some i ≡ cond b (Some n) None → n ≡ i
same_place n true i h = cc
same_place n false i h = cc

position_or_len-trees_view : (name : List ℕ) (trees : List NamedTree)
    → position_or_len (λ t. bytes_eq (string_bytes t.name) name) trees ≡ position_or_len (is_named name) (trees_view trees)
position_or_len-trees_view name [] = refl
position_or_len-trees_view name (t ∷ ts) = ap (λ n. cond (not (bytes_eq (string_bytes t.name) name)) (1 + n) 0) (position_or_len-trees_view name ts)

pub position-trees_view : (name : List ℕ) (trees : List NamedTree)
    → position (λ t. bytes_eq (string_bytes t.name) name) trees ≡ position (is_named name) (trees_view trees)
position-trees_view name trees =
    let n = position_or_len (is_named name) (trees_view trees) in
    ap (λ i. cond (ltb i (length trees)) (Some i) None) (position_or_len-trees_view name trees)
    ∙ ap (λ m. cond (ltb n m) (Some n) None) (sym (length-map trees tree_view))

found_here : {T : Type 0} (o : Option ℕ) (i : ℕ) (later other : T) → Some i ≡ o → cond (is_some o) later other ≡ later
found_here None i later other h = cc
found_here (Some j) i later other h = refl

missing_here : {T : Type 0} (o : Option ℕ) (later other : T) → None ≡ o → cond (is_some o) later other ≡ other
missing_here None later other h = refl
missing_here (Some j) later other h = cc

texts_view-drop : (names : List (String Global)) (k : ℕ) (name : String Global) → k < length names → name ≡ get_or names k name
    → texts_view (drop k names) ≡ string_bytes name ∷ texts_view (drop (k + 1) names)
texts_view-drop names k name h read =
    ap texts_view (drop_more names k name h) ∙ ap (λ n. string_bytes n ∷ texts_view (drop (k + 1) names)) (sym read)

module _ (names : List (String Global)) (ts : List NamedPlain) (k : ℕ) (name : String Global) (h : k < length names) (read : name ≡ get_or names k name)
    (fault : Option Fault) (first : agent_fault k (texts_view (drop k names)) ts ≡ fault) where
  here : agent_fault k (string_bytes name ∷ texts_view (drop (k + 1) names)) ts ≡ fault
  here = sym (ap (λ ns. agent_fault k ns ts) (texts_view-drop names k name h read)) ∙ first

  -- one more name was looked for
  pub pick_more : (i : ℕ) (picks all : List ℕ) → Some i ≡ position (is_named (string_bytes name)) ts → picks ++ map (index_of ts) (texts_view (drop k names)) ≡ all
      → (agent_fault (k + 1) (texts_view (drop (k + 1) names)) ts ≡ fault) × ((picks ++ i ∷ []) ++ map (index_of ts) (texts_view (drop (k + 1) names)) ≡ all)
  pick_more i picks all found rest =
      let left = texts_view (drop (k + 1) names) in
      let place : index_of ts (string_bytes name) ≡ i = same_place (index_of ts (string_bytes name)) (ltb (index_of ts (string_bytes name)) (length ts)) i found in (
        ap (λ j. agent_fault j left ts) (add-one k)
            ∙ sym (found_here (position (is_named (string_bytes name)) ts) i (agent_fault (suc k) left ts) (Some (no_tree k)) found) ∙ here,
        append_assoc picks (i ∷ []) (map (index_of ts) left) ∙ ap (λ j. picks ++ j ∷ map (index_of ts) left) (sym place)
            ∙ sym (ap (λ ns. picks ++ map (index_of ts) ns) (texts_view-drop names k name h read)) ∙ rest,
      )

  pub pick_missing : None ≡ position (is_named (string_bytes name)) ts → fault ≡ Some (no_tree k)
  pick_missing missing =
      sym here ∙ missing_here (position (is_named (string_bytes name)) ts) (agent_fault (suc k) (texts_view (drop (k + 1) names)) ts) (Some (no_tree k)) missing
