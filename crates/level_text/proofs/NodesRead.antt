-- Reading the nodes of an array, one after another.
use Rattle.std.proofs.Common.{◌≡◌, ℕ, ◌+◌, ◌<◌, ◌≤◌, List, [], ◌∷◌, ◌++◌, length, get_or, drop, sym, ap, ◌∙◌, Some, None, option_map, option_and_then, Global}
use Rattle.serde_json.specs.View.{view, items_view}
use Rattle.serde_json.specs.declared.value.Value.{Value}
use Rattle.bt_nodes.specs.Plain.{tree, plain, plains}
use Rattle.bt_nodes.specs.declared.node.Node.{Node}
use Rattle.level_text.specs.Nodes.{node_of, forest_in}
use Rattle.level_text.proofs.NodesBefore.{forest_before, forest_before-none, one_more}
use Rattle.level_text.proofs.Items.{items_view-drop, items_view-end}

pub read_more : (ns : List (Node Global)) (n : Node Global) (vs : List Value) (i : ℕ) (d : Value) → i < length vs → node_of (view (get_or vs i d)) ≡ Some (plain n)
    → option_map (forest_before ns) (forest_in (items_view (drop i vs))) ≡ forest_in (items_view vs)
    → option_map (forest_before (ns ++ n ∷ [])) (forest_in (items_view (drop (i + 1) vs))) ≡ forest_in (items_view vs)
read_more ns n vs i d h e before =
    let left = forest_in (items_view (drop (i + 1) vs)) in
    one_more ns n left ∙ sym (ap (option_map (forest_before ns)) (ap forest_in (items_view-drop vs i d h) ∙ ap (option_and_then (λ p. option_map (tree p) left)) e)) ∙ before

-- one that is no node was met
pub read_none : (ns : List (Node Global)) (vs : List Value) (i : ℕ) (d : Value) → i < length vs → node_of (view (get_or vs i d)) ≡ None
    → option_map (forest_before ns) (forest_in (items_view (drop i vs))) ≡ forest_in (items_view vs)
    → None ≡ forest_in (items_view vs)
read_none ns vs i d h e before =
    let left = forest_in (items_view (drop (i + 1) vs)) in
    sym (ap (option_map (forest_before ns)) (ap forest_in (items_view-drop vs i d h) ∙ ap (option_and_then (λ p. option_map (tree p) left)) e)) ∙ before

pub read_all : (ns : List (Node Global)) (vs : List Value) (i : ℕ) → length vs ≤ i
    → option_map (forest_before ns) (forest_in (items_view (drop i vs))) ≡ forest_in (items_view vs)
    → Some (plains ns) ≡ forest_in (items_view vs)
read_all ns vs i h before = ap Some (sym (forest_before-none ns)) ∙ sym (ap (λ ds. option_map (forest_before ns) (forest_in ds)) (items_view-end vs i h)) ∙ before
