-- The JSON value of a node spells the node, nests as deep as it at most, and has no float.
use Rattle.std.proofs.Common.{◌≡◌, ℕ, ◌+◌, ◌-◌, ◌<◌, ◌≤◌, [], ◌∷◌, Bool, true, false, ◌&&◌, leb, Option, Some, option_map, refl, ap, arith}
use Rattle.std.proofs.lemmas.Bool.{ltb-true, le-leb}
use Rattle.serde_json.specs.Data.{depth as nesting, items_depth}
use Rattle.serde_json.specs.Written.{has_float, items_have_float}
use Rattle.bt_nodes.specs.declared.leaf.Leaf.{Leaf}
use Rattle.bt_nodes.specs.declared.leaf.Leaf.TheVariants.{Take}
use Rattle.bt_nodes.specs.Plain.{Plain, Composite, Star, Par, Not, Tries, Ticks, Wait, Move, Does, Seq, Fallback, Forest, none, tree}
use Rattle.bt_nodes.specs.Sizes.{depth, deepest}
use Rattle.level_text.specs.Arguments.{mark_of}
use Rattle.level_text.specs.Nodes.{node_of, forest_in}
use Rattle.level_text.specs.Marks.{has_marks, all_have_marks, leaf_has_marks}
use Rattle.level_text.specs.Written.{leaf_data, node_data, forest_data}

pub both : (a b : Bool) → (a && b) ≡ true → (a ≡ true) × (b ≡ true)
both true b h = (refl, h)
both false b h = (h, cc)

mark_of-is : (low high n : ℕ) → low + n ≤ high → mark_of low high ((low + n) ∷ []) ≡ Some n
mark_of-is low high n h =
    let above : leb low (low + n) ≡ true = le-leb low (low + n) (omega arith) in
    let below : leb (low + n) high ≡ true = le-leb (low + n) high h in
    let same : (low + n) - low ≡ n = omega arith in
    rw (above, below) (ap Some same)

place_is : (p : ℕ) → p < 10 → mark_of 48 57 ((48 + p) ∷ []) ≡ Some p
place_is p h = mark_of-is 48 57 p (omega arith)

signal_is : (a : ℕ) → a < 26 → mark_of 97 122 ((97 + a) ∷ []) ≡ Some a
signal_is a h = mark_of-is 97 122 a (omega arith)

agent_is : (b : ℕ) → b < 26 → mark_of 65 90 ((65 + b) ∷ []) ≡ Some b
agent_is b h = mark_of-is 65 90 b (omega arith)

leaf_is : (leaf : Leaf) → leaf_has_marks leaf ≡ true → node_of (leaf_data leaf) ≡ Some (Does leaf)
leaf_is Take h = refl
leaf_is _ h = grind (arith, place_is, signal_is, agent_is, ltb-true, h)

mutual
  pub node_of-node_data : (p : Plain) → has_marks p ≡ true → node_of (node_data p) ≡ Some p
  node_of-node_data (Composite Seq children) h = ap (option_map (Composite Seq)) (forest_in-forest_data children h)
  node_of-node_data (Composite Fallback children) h = ap (option_map (Composite Fallback)) (forest_in-forest_data children h)
  node_of-node_data (Star Seq children) h = ap (option_map (Star Seq)) (forest_in-forest_data children h)
  node_of-node_data (Star Fallback children) h = ap (option_map (Star Fallback)) (forest_in-forest_data children h)
  node_of-node_data (Par m children) h =
      ap (λ (o : Option Forest). option_map (λ (q : ℕ × Forest). Par q.0 q.1) (option_map (λ b. (m, b)) o)) (forest_in-forest_data children h)
  node_of-node_data (Not child) h = ap (option_map Not) (node_of-node_data child h)
  node_of-node_data (Tries n child) h =
      ap (λ (o : Option Plain). option_map (λ (q : ℕ × Plain). Tries q.0 q.1) (option_map (λ b. (n, b)) o)) (node_of-node_data child h)
  node_of-node_data (Ticks n child) h =
      ap (λ (o : Option Plain). option_map (λ (q : ℕ × Plain). Ticks q.0 q.1) (option_map (λ b. (n, b)) o)) (node_of-node_data child h)
  node_of-node_data (Wait n) h = refl
  node_of-node_data (Move p) h = ap (option_map Move) (place_is p (ltb-true p 10 h))
  node_of-node_data (Does leaf) h = leaf_is leaf h

  pub forest_in-forest_data : (f : Forest) → all_have_marks f ≡ true → forest_in (forest_data f) ≡ Some f
  forest_in-forest_data none h = refl
  forest_in-forest_data (tree child children) h =
      rw (
        node_of-node_data child (both (has_marks child) (all_have_marks children) h).0,
        forest_in-forest_data children (both (has_marks child) (all_have_marks children) h).1,
      ) refl

leaf_nesting : (leaf : Leaf) → nesting (leaf_data leaf) ≤ 1
leaf_nesting Take = omega arith
leaf_nesting _ = omega arith

mutual
  pub nesting-node_data : (p : Plain) → nesting (node_data p) ≤ depth p
  nesting-node_data (Composite kind children) = omega (arith, items_depth-forest_data children)
  nesting-node_data (Star kind children) = omega (arith, items_depth-forest_data children)
  nesting-node_data (Par m children) = omega (arith, items_depth-forest_data children)
  nesting-node_data (Not child) = omega (arith, nesting-node_data child)
  nesting-node_data (Tries n child) = omega (arith, nesting-node_data child)
  nesting-node_data (Ticks n child) = omega (arith, nesting-node_data child)
  nesting-node_data (Wait n) = omega arith
  nesting-node_data (Move p) = omega arith
  nesting-node_data (Does leaf) = leaf_nesting leaf

  pub items_depth-forest_data : (f : Forest) → items_depth (forest_data f) ≤ deepest f
  items_depth-forest_data none = omega arith
  items_depth-forest_data (tree child children) = omega (arith, nesting-node_data child, items_depth-forest_data children)

leaf_has_no_float : (leaf : Leaf) → has_float (leaf_data leaf) ≡ false
leaf_has_no_float Take = refl
leaf_has_no_float _ = refl

mutual
  pub has_float-node_data : (p : Plain) → has_float (node_data p) ≡ false
  has_float-node_data (Composite kind children) = items_have_float-forest_data children
  has_float-node_data (Star kind children) = items_have_float-forest_data children
  has_float-node_data (Par m children) = items_have_float-forest_data children
  has_float-node_data (Not child) = rw (has_float-node_data child) refl
  has_float-node_data (Tries n child) = rw (has_float-node_data child) refl
  has_float-node_data (Ticks n child) = rw (has_float-node_data child) refl
  has_float-node_data (Wait n) = refl
  has_float-node_data (Move p) = refl
  has_float-node_data (Does leaf) = leaf_has_no_float leaf

  pub items_have_float-forest_data : (f : Forest) → items_have_float (forest_data f) ≡ false
  items_have_float-forest_data none = refl
  items_have_float-forest_data (tree child children) = rw (has_float-node_data child) (items_have_float-forest_data children)
