-- The JSON value of a level spells the level, and its text is read as that value.
use Rattle.std.proofs.Common.{◌≡◌, ℕ, ◌≤◌, List, [], ◌∷◌, Bool, true, false, cond, ltb, Option, Some, None, Ok, option_map, refl, ap, arith}
use Rattle.std.proofs.lemmas.Bool.{ltb-false}
use Rattle.std.specs.List.{list_all}
use Rattle.std.specs.Option.{option_or}
use Rattle.serde_json.specs.Data.{depth as nesting, items_depth, members_depth}
use Rattle.serde_json.specs.Written.{has_float, items_have_float, members_have_float}
use Rattle.bt_nodes.specs.Plain.{Plain}
use Rattle.bt_nodes.specs.Sizes.{size, depth}
use Rattle.bt_nodes.specs.Limits.{tree_fault}
use Rattle.game_session.specs.Parts.{Parts, NamedPlain}
use Rattle.level_text.specs.Parts.{texts_in, trees_in}
use Rattle.game_session.specs.Faults.{limit_fault, parts_fault, bad_tree}
use Rattle.level_text.specs.Levels.{level_of, unless_fault}
use Rattle.level_text.specs.Marks.{has_marks}
use Rattle.level_text.specs.Written.{texts_data, trees_data, level_data}
use Rattle.level_text.proofs.NodesSpelled.{both, node_of-node_data, nesting-node_data, has_float-node_data}

texts_in-texts_data : (ss : List (List ℕ)) → texts_in (texts_data ss) ≡ Some ss
texts_in-texts_data [] = refl
texts_in-texts_data (s ∷ ss) = rw (texts_in-texts_data ss) refl

trees_in-trees_data : (ts : List NamedPlain) → list_all (λ t. has_marks t.tree) ts ≡ true → trees_in (trees_data ts) ≡ Some ts
trees_in-trees_data [] h = refl
trees_in-trees_data (t ∷ ts) h =
    let marks : (has_marks t.tree ≡ true) × (list_all (λ u. has_marks u.tree) ts ≡ true) = both (has_marks t.tree) (list_all (λ u. has_marks u.tree) ts) h in
    rw (node_of-node_data t.tree marks.0, trees_in-trees_data ts marks.1) refl

-- the value of a level spells it
pub level_of-level_data : (parts : Parts) → parts_fault parts ≡ None → list_all (λ t. has_marks t.tree) parts.trees ≡ true → level_of (level_data parts) ≡ Ok parts
level_of-level_data parts none marks =
    rw (texts_in-texts_data parts.rows, texts_in-texts_data parts.names, trees_in-trees_data parts.trees marks) (ap (unless_fault parts) none)

fails : {T : Type 0} (b : Bool) (x : T) (later : Option T) → cond b (Some x) later ≡ None → (b ≡ false) × (later ≡ None)
fails true x later h = (cc, cc)
fails false x later h = (refl, h)

tree_is_shallow : (p : Plain) → tree_fault p ≡ None → depth p ≤ 32
tree_is_shallow p h = ltb-false 32 (depth p) (fails (ltb 32 (depth p)) _ _ (fails (ltb 255 (size p)) _ _ h).1).0

no_first : {T U : Type 0} (f : T → U) (o : Option T) (later : Option U) → option_or (option_map f o) later ≡ None → (o ≡ None) × (later ≡ None)
no_first f None later h = (refl, h)
no_first f (Some x) later h = (cc, cc)

members_depth-trees_data : (ts : List NamedPlain) → limit_fault ts ≡ None → members_depth (trees_data ts) ≤ 32
members_depth-trees_data [] h = omega arith
members_depth-trees_data (t ∷ ts) h =
    let none : (tree_fault t.tree ≡ None) × (limit_fault ts ≡ None) = no_first (bad_tree t.name) (tree_fault t.tree) (limit_fault ts) h in
    omega (arith, nesting-node_data t.tree, tree_is_shallow t.tree none.0, members_depth-trees_data ts none.1)

items_depth-texts_data : (ss : List (List ℕ)) → items_depth (texts_data ss) ≡ 0
items_depth-texts_data [] = refl
items_depth-texts_data (s ∷ ss) = rw (items_depth-texts_data ss) refl

pub nesting-level_data : (parts : Parts) → limit_fault parts.trees ≡ None → nesting (level_data parts) ≤ 127
nesting-level_data parts h =
    omega (arith, items_depth-texts_data parts.rows, items_depth-texts_data parts.names, members_depth-trees_data parts.trees h)

texts_have_no_float : (ss : List (List ℕ)) → items_have_float (texts_data ss) ≡ false
texts_have_no_float [] = refl
texts_have_no_float (s ∷ ss) = texts_have_no_float ss

trees_have_no_float : (ts : List NamedPlain) → members_have_float (trees_data ts) ≡ false
trees_have_no_float [] = refl
trees_have_no_float (t ∷ ts) = rw (has_float-node_data t.tree) (trees_have_no_float ts)

pub has_float-level_data : (parts : Parts) → has_float (level_data parts) ≡ false
has_float-level_data parts = rw (texts_have_no_float parts.names, texts_have_no_float parts.rows, trees_have_no_float parts.trees) refl
