-- The children of a node beside the list of nodes that they stand for.
use Rattle.std.proofs.Common.{◌≡◌, ℕ, zero, suc, ◌+◌, ◌<◌, List, [], ◌∷◌, length, get_or, drop, refl, sym, ap, ◌∙◌, arith}
use Rattle.std.specs.Prelude.{Option, Some, None, MatchOption}
use Rattle.bt_nodes.specs.Plain.{Plain, Composite, Star, Par, tree, plain, plains}
use Rattle.bt_nodes.specs.Heads.{listed}
use Rattle.bt_nodes.specs.declared.node.Node.{Node}
use Rattle.bt_tick.specs.Children.{children_of, from_child}
use Rattle.bt_tick.specs.Kinds.{HasList}

child_in : {T : Type 0} (xs : List (Node T)) (k : ℕ) (d : Node T) → k < length xs → from_child k (plains xs) ≡ tree (plain (get_or xs k d)) (from_child (k + 1) (plains xs))
child_in [] k d h = absurd (omega arith)
child_in (x ∷ xs) zero d h = refl
child_in (x ∷ xs) (suc k) d h =
    let e : suc k + 1 ≡ suc (k + 1) = omega arith in
    child_in xs k d (omega arith) ∙ ap (λ j. tree (plain (get_or xs k d)) (from_child j (plains (x ∷ xs)))) (sym e)

-- the child that was read from the list
pub child_at : {T : Type 0} (p : Plain) (xs : List (Node T)) (k : ℕ) (c : Node T) → children_of p ≡ plains xs → k < length xs → c ≡ get_or xs k c
    → from_child k (children_of p) ≡ tree (plain c) (from_child (k + 1) (children_of p))
child_at p xs k c e h is =
    ap (from_child k) e ∙ child_in xs k c h ∙ ap (λ n. tree (plain n) (from_child (k + 1) (plains xs))) (sym is)
    ∙ ap (λ cs. tree (plain c) (from_child (k + 1) cs)) (sym e)

-- the children of a node that lists them are those that it lists
pub listed_children : (p : Plain) → HasList p → children_of p ≡ listed p
listed_children (Composite kind cs) list = refl
listed_children (Star kind cs) list = refl
listed_children (Par m cs) list = refl
listed_children _ list = absurd list

-- the child that was read from a node that lists it
pub listed_child : {T : Type 0} (p : Plain) (xs : List (Node T)) (k : ℕ) (c : Node T) → HasList p → plains xs ≡ listed p → k < length xs → c ≡ get_or xs k c
    → from_child k (children_of p) ≡ tree (plain c) (from_child (k + 1) (children_of p))
listed_child p xs k c list e h is = child_at p xs k c (listed_children p list ∙ sym e) h is

-- ---- the innermost frame

pub replaced : {X : Type 0} (r : Option X) (g : X) (old new : List X) → 0 < length old
    → MatchOption r ((old ≡ []) × (new ≡ [])) (λ t. (rest : List X) × (old ≡ t ∷ rest) × (new ≡ g ∷ rest)) → new ≡ g ∷ drop 1 old
replaced None g old new some (a, b) = let e = ap length a in absurd (omega (arith, e, some))
replaced (Some t) g old new some (rest, a, b) = b ∙ ap (λ l. g ∷ l) (sym (ap (drop 1) a))
