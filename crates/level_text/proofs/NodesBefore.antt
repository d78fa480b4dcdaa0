-- Nodes that were read, before those that are left.
use Rattle.std.proofs.Common.{◌≡◌, List, [], ◌∷◌, ◌++◌, refl, ap, Option, Some, None, option_map}
use Rattle.bt_nodes.specs.Plain.{Forest, none, tree, plain, plains}
use Rattle.bt_nodes.specs.declared.node.Node.{Node}

abbrev pub forest_before : {A : Type 0} → List (Node A) → Forest → Forest
forest_before [] rest = rest
forest_before (n ∷ ns) rest = tree (plain n) (forest_before ns rest)

pub forest_before-none : {A : Type 0} → (ns : List (Node A)) → forest_before ns none ≡ plains ns
forest_before-none [] = refl
forest_before-none (n ∷ ns) = ap (tree (plain n)) (forest_before-none ns)

pub forest_before-push : {A : Type 0} → (ns : List (Node A)) (n : Node A) (rest : Forest) → forest_before (ns ++ n ∷ []) rest ≡ forest_before ns (tree (plain n) rest)
forest_before-push [] n rest = refl
forest_before-push (m ∷ ns) n rest = ap (tree (plain m)) (forest_before-push ns n rest)

-- one more node was read
pub one_more : {A : Type 0} → (ns : List (Node A)) (n : Node A) (left : Option Forest)
    → option_map (forest_before (ns ++ n ∷ [])) left ≡ option_map (forest_before ns) (option_map (tree (plain n)) left)
one_more ns n None = refl
one_more ns n (Some rest) = ap Some (forest_before-push ns n rest)
