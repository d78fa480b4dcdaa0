-- A forest beside the list of nodes that it stands for.
use Rattle.std.proofs.Common.{◌≡◌, ℕ, zero, suc, ◌+◌, ◌<◌, ◌≤◌, Bool, not, ◌&&◌, ◌==◌, List, [], ◌∷◌, ◌++◌, map, length, get_or}
use Rattle.std.proofs.Common.{take, drop, refl, sym, ap, ◌∙◌, arith}
use Rattle.std.proofs.Math.Dec.{eqb-suc-zero}
use Rattle.std.proofs.lemmas.List.{drop_more, take_more, take_all, map-append}
use Rattle.bt_nodes.specs.Plain.{Plain, Forest, none, tree, forest_of, plain, plains}
use Rattle.bt_nodes.specs.Sizes.{count}
use Rattle.bt_nodes.specs.Limits.{has_tree}
use Rattle.bt_nodes.specs.declared.node.Node.{Node}

-- the nodes from i on begin with the one at i
pub plains-drop : {A : Type 0} → (nodes : List (Node A)) (i : ℕ) (d : Node A) → i < length nodes
    → plains (drop i nodes) ≡ tree (plain (get_or nodes i d)) (plains (drop (i + 1) nodes))
plains-drop nodes i d h = ap plains (drop_more nodes i d h)

pub plains-end : {A : Type 0} → (nodes : List (Node A)) (i : ℕ) → length nodes ≤ i → plains (drop i nodes) ≡ none
plains-end [] zero h = refl
plains-end [] (suc i) h = refl
plains-end (x ∷ xs) zero h = absurd (omega arith)
plains-end (x ∷ xs) (suc i) h = plains-end xs i (omega arith)

pub count-plains : {A : Type 0} → (nodes : List (Node A)) → count (plains nodes) ≡ length nodes
count-plains [] = refl
count-plains (x ∷ xs) = omega (arith, count-plains xs)

pub has_tree-plains : {A : Type 0} → (nodes : List (Node A)) (n : ℕ) → n ≡ length nodes → not (n == 0) ≡ has_tree (plains nodes)
has_tree-plains [] n e = ap (λ n. not (n == 0)) e
has_tree-plains (x ∷ xs) n e = ap (λ n. not (n == 0)) e ∙ ap not (eqb-suc-zero (length xs))

-- one more copy beside one more node
pub copied_more : {A B : Type 0} → (copies : List (Node B)) (copy : Node B) (nodes : List (Node A)) (i : ℕ) (d : Node A)
    → map plain copies ≡ map plain (take i nodes) → i < length nodes → plain copy ≡ plain (get_or nodes i d)
    → map plain (copies ++ copy ∷ []) ≡ map plain (take (i + 1) nodes)
copied_more copies copy nodes i d same h e =
    map-append plain copies (copy ∷ [])
    ∙ rw (same, e) (sym (ap (map plain) (take_more nodes i d h) ∙ map-append plain (take i nodes) (get_or nodes i d ∷ [])))

pub copied_all : {A B : Type 0} → (copies : List (Node B)) (nodes : List (Node A)) (i : ℕ)
    → map plain copies ≡ map plain (take i nodes) → length nodes ≤ i → plains copies ≡ plains nodes
copied_all copies nodes i same h = ap forest_of (same ∙ ap (map plain) (take_all i nodes h))

-- a walk that asks each node of a list has asked one more
pub one_asked : {A : Type 0} → (asks : Plain → Bool) (asks_all : Forest → Bool) → ((c : Plain) (cs : Forest) → asks_all (tree c cs) ≡ (asks c && asks_all cs))
    → (nodes : List (Node A)) (i : ℕ) (node : Node A) (b : Bool) → i < length nodes → node ≡ get_or nodes i node → b ≡ asks (plain node)
    → asks_all (plains (drop i nodes)) ≡ asks_all (plains nodes)
    → (b && asks_all (plains (drop (i + 1) nodes))) ≡ asks_all (plains nodes)
one_asked asks asks_all both nodes i node b h is answer left =
    let rest = plains (drop (i + 1) nodes) in
    ap (λ b. b && asks_all rest) (answer ∙ ap (λ n. asks (plain n)) is)
    ∙ sym (ap asks_all (plains-drop nodes i node h) ∙ both (plain (get_or nodes i node)) rest)
    ∙ left
