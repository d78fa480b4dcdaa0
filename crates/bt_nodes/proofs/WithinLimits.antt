-- What a tree that breaks no limit keeps.
use Rattle.std.proofs.Common.{◌≡◌, ◌≤◌, Bool, true, false, nat_lt, Some, None, if◌then◌else◌, refl}
use Rattle.std.proofs.lemmas.Bool.{ltb-false}
use Rattle.bt_nodes.specs.Plain.{Plain}
use Rattle.bt_nodes.specs.Sizes.{size, depth}
use Rattle.bt_nodes.specs.Limits.{keeps, tree_fault}
use Rattle.bt_nodes.specs.Trees.{plain_of}
use Rattle.bt_nodes.specs.declared.tree_fault.TreeFault.TheVariants.{TooManyNodes, TooDeep, NoChild, Threshold, Count}
use Rattle.bt_nodes.specs.declared.limits.Limit.TheVariants.{Children, Thresholds, Counts}
use Rattle.bt_nodes.specs.declared.tree.Tree.{Tree}

pub record IsWithin (p : Plain) : Type 0 where
  pub few : size p ≤ 255
  pub shallow : depth p ≤ 32
  pub children : keeps Children p ≡ true
  pub thresholds : keeps Thresholds p ≡ true
  pub counts : keeps Counts p ≡ true

tests : (many deep listed met counted : Bool)
    → (if many then Some TooManyNodes
    else (if deep then Some TooDeep
    else (if listed then (if met then (if counted then None else Some Count) else Some Threshold) else Some NoChild)))
    ≡ None
    → (many ≡ false) × (deep ≡ false) × (listed ≡ true) × (met ≡ true) × (counted ≡ true)
tests false false true true true e = (refl, refl, refl, refl, refl)
tests _ _ _ _ _ e = cc

pub within : (p : Plain) → tree_fault p ≡ None → IsWithin p
within p e =
    let passed = tests (nat_lt 255 (size p)) (nat_lt 32 (depth p)) (keeps Children p) (keeps Thresholds p) (keeps Counts p) e in
    record {
      few = ltb-false 255 (size p) passed.0;
      shallow = ltb-false 32 (depth p) passed.1;
      children = passed.2;
      thresholds = passed.3;
      counts = passed.4;
    }

pub tree_within : {A : Type 0} → (tree : Tree A) → IsWithin (plain_of tree)
tree_within tree = within (plain_of tree) tree.within
