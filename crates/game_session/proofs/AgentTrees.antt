-- Where the tree of an agent stands among the trees.
use Rattle.std.proofs.Common.{◌≡◌, ℕ, zero, suc, ◌<◌, List, [], ◌∷◌, length, get_or, map, Bool, true, false, cond, ltb, Some, None, is_some, position, option_map, unwrap_or, refl, sym, ap, ◌∙◌, arith}
use Rattle.std.proofs.lemmas.List.Folds.{find_at}
use Rattle.std.proofs.lemmas.List.{get_or-map, length-map}
use Rattle.std.proofs.lemmas.Option.{slice_get-get_or}
use Rattle.std.proofs.lemmas.Bool.{ltb-true}
use Rattle.std.specs.List.{list_all}
use Rattle.grid_world.specs.Grid.{Grid}
use Rattle.bt_nodes.specs.declared.leaf.Leaf.TheVariants.{Carrying}
use Rattle.bt_nodes.specs.Plain.{Does}
use Rattle.game_session.specs.Parts.{NamedPlain, Parts}
use Rattle.game_session.specs.Places.{places, has_place}
use Rattle.game_session.specs.Agents.{agents, has_agent}
use Rattle.game_session.specs.Faults.{is_named, agent_fault, place_fault, crew_fault, parts_fault, world_of}
use Rattle.game_session.specs.Kept.{index_of}
use Rattle.game_session.specs.Levels.{tree_named, agent_trees}
use Rattle.game_session.proofs.Faultless.{passes, faultless}

within : (n m : ℕ) (b : Bool) → ltb n m ≡ b → is_some (cond b (Some n) None) ≡ true → n < m
within n m true e h = ltb-true n m e
within n m false e h = cc

-- each agent's name is that of some tree
pub agent_has_tree : (i k : ℕ) (names : List (List ℕ)) (ts : List NamedPlain) → agent_fault i names ts ≡ None → k < length names
    → index_of ts (get_or names k []) < length ts
agent_has_tree i k [] ts none h = absurd (omega arith)
agent_has_tree i zero (name ∷ names) ts none h =
    within _ _ (ltb (index_of ts name) (length ts)) refl (passes (is_some (position (is_named name) ts)) _ _ none).0
agent_has_tree i (suc k) (name ∷ names) ts none h =
    agent_has_tree (suc i) k names ts (passes (is_some (position (is_named name) ts)) _ _ none).1 (omega arith)

pub tree_named-index_of : (ts : List NamedPlain) (name : List ℕ) (d : NamedPlain) → index_of ts name < length ts → tree_named ts name ≡ (get_or ts (index_of ts name) d).tree
tree_named-index_of ts name d h =
    ap (λ o. unwrap_or (option_map (λ t. t.tree) o) (Does Carrying)) (find_at (is_named name) ts ∙ slice_get-get_or ts (index_of ts name) d h)

-- each tree's places are on the map
pub tree_is_placed : (g : Grid) (ts : List NamedPlain) (k : ℕ) (d : NamedPlain) → place_fault g ts ≡ None → k < length ts → list_all (has_place g) (places (get_or ts k d).tree) ≡ true
tree_is_placed g [] k d none h = absurd (omega arith)
tree_is_placed g (t ∷ ts) zero d none h = (passes (list_all (has_place g) (places t.tree)) _ _ none).0
tree_is_placed g (t ∷ ts) (suc k) d none h = tree_is_placed g ts k d (passes (list_all (has_place g) (places t.tree)) _ _ none).1 (omega arith)

-- each tree's agents are on the map
pub tree_is_crewed : (g : Grid) (ts : List NamedPlain) (k : ℕ) (d : NamedPlain) → crew_fault g ts ≡ None → k < length ts → list_all (has_agent g) (agents (get_or ts k d).tree) ≡ true
tree_is_crewed g [] k d none h = absurd (omega arith)
tree_is_crewed g (t ∷ ts) zero d none h = (passes (list_all (has_agent g) (agents t.tree)) _ _ none).0
tree_is_crewed g (t ∷ ts) (suc k) d none h = tree_is_crewed g ts k d (passes (list_all (has_agent g) (agents t.tree)) _ _ none).1 (omega arith)

module _ (parts : Parts) (picks : List ℕ) (none : parts_fault parts ≡ None) (picked : picks ≡ map (index_of parts.trees) parts.names)
    (k : ℕ) (h : k < length (agent_trees parts)) where
  is_agent : k < length parts.names
  is_agent = omega (arith, h, length-map parts.names (tree_named parts.trees))

  pick_is : (i : ℕ) → get_or picks k i ≡ index_of parts.trees (get_or parts.names k [])
  pick_is i = ap (λ ps. get_or ps k i) picked ∙ get_or-map (index_of parts.trees) parts.names k [] i is_agent

  has_tree : index_of parts.trees (get_or parts.names k []) < length parts.trees
  has_tree = agent_has_tree 0 k parts.names parts.trees (faultless parts none).agents is_agent

  pub pick_is_within : (i : ℕ) → get_or picks k i < length parts.trees
  pick_is_within i = rw (pick_is i) has_tree

  pub picked_tree : (i : ℕ) (t : NamedPlain) → get_or (agent_trees parts) k (Does Carrying) ≡ (get_or parts.trees (get_or picks k i) t).tree
  picked_tree i t =
      get_or-map (tree_named parts.trees) parts.names k [] (Does Carrying) is_agent
      ∙ tree_named-index_of parts.trees (get_or parts.names k []) t has_tree ∙ ap (λ j. (get_or parts.trees j t).tree) (sym (pick_is i))

  pub picked_is_placed : (i : ℕ) (t : NamedPlain) → list_all (has_place (world_of parts)) (places (get_or parts.trees (get_or picks k i) t).tree) ≡ true
  picked_is_placed i t = tree_is_placed (world_of parts) parts.trees (get_or picks k i) t (faultless parts none).places (pick_is_within i)

  pub picked_is_crewed : (i : ℕ) (t : NamedPlain) → list_all (has_agent (world_of parts)) (agents (get_or parts.trees (get_or picks k i) t).tree) ≡ true
  picked_is_crewed i t = tree_is_crewed (world_of parts) parts.trees (get_or picks k i) t (faultless parts none).crew (pick_is_within i)
