-- The children of a node: how many, their sizes, their numbers and where they stand.
use Rattle.std.proofs.Common.{◌≡◌, ℕ, zero, suc, ◌+◌, ◌<◌, ◌≤◌, List, [], ◌∷◌, ◌++◌, length, get_or, refl, sym, ap, ◌∙◌, subst, arith, length-append, zero-add}
use Rattle.std.proofs.lemmas.List.{get_or_append_left, get_or-append-add}
use Rattle.bt_nodes.specs.Plain.{Plain, Composite, Star, Par, Not, Tries, Ticks, Wait, Move, Does, Forest, none, tree}
use Rattle.bt_nodes.specs.Sizes.{size, sizes, count, subtree_sizes, subtree_sizes_all}
use Rattle.bt_nodes.specs.Bounds.{bounds, bounds_all}
use Rattle.bt_nodes.proofs.MemoryBounds.{length-bounds}
use Rattle.bt_nodes.proofs.SizeTables.{length-subtree_sizes}
use Rattle.bt_tick.specs.Children.{children_of, from_child, child_number}
use Rattle.bt_tick.specs.Places.{Segment, Sits}

-- a tree is its root and its root's children
pub size-children : (p : Plain) → size p ≡ 1 + sizes (children_of p)
size-children (Wait k) = refl
size-children (Move p) = refl
size-children (Does leaf) = refl
size-children _ = omega arith

pub from_count : (cs : Forest) (k : ℕ) → count cs ≤ k → from_child k cs ≡ none
from_count none zero h = refl
from_count none (suc k) h = refl
from_count (tree c cs) zero h = absurd (omega arith)
from_count (tree c cs) (suc k) h = from_count cs k (omega arith)

pub below_count : (cs : Forest) (k : ℕ) (c : Plain) (rest : Forest) → from_child k cs ≡ tree c rest → k < count cs
below_count none zero c rest h = absurd (cc)
below_count none (suc k) c rest h = absurd (cc)
below_count (tree c' cs) zero c rest h = omega arith
below_count (tree c' cs) (suc k) c rest h = omega (arith, below_count cs k c rest h)

pub child_there : (cs : Forest) (k : ℕ) → k < count cs → (c : Plain) × (from_child k cs ≡ tree c (from_child (k + 1) cs))
child_there none k h = absurd (omega (arith, h))
child_there (tree c cs) zero h = (c, refl)
child_there (tree c cs) (suc k) h =
    let (d, e) = child_there cs k (omega (arith, h)) in
    let n : suc k + 1 ≡ suc (k + 1) = omega arith in
    (d, e ∙ ap (λ j. tree d (from_child j (tree c cs))) (sym n))

pub sizes_from : (cs : Forest) (k : ℕ) → sizes (from_child k cs) ≤ sizes cs
sizes_from cs zero = omega arith
sizes_from none (suc k) = omega arith
sizes_from (tree c cs) (suc k) = omega (arith, sizes_from cs k)

-- the number of the next child
pub child_next : (cs : Forest) (k at : ℕ) (c : Plain) (rest : Forest) → from_child k cs ≡ tree c rest → child_number (k + 1) cs at ≡ child_number k cs at + size c
child_next none zero at c rest h = absurd (cc)
child_next none (suc k) at c rest h = absurd (cc)
child_next (tree c' cs) zero at c rest h = let e : c' ≡ c = cc in ap (λ x. at + size x) e
child_next (tree c' cs) (suc k) at c rest h =
    let e : suc k + 1 ≡ suc (k + 1) = omega arith in
    ap (λ j. child_number j (tree c' cs) at) e ∙ child_next cs k (at + size c') c rest h

-- the children from child k on end where all children end
pub child_split : (cs : Forest) (k at : ℕ) → child_number k cs at + sizes (from_child k cs) ≡ at + sizes cs
child_split cs zero at = refl
child_split none (suc k) at = refl
child_split (tree c cs) (suc k) at = child_split cs k (at + size c) ∙ omega arith

pub child_above : (cs : Forest) (k at : ℕ) → at ≤ child_number k cs at
child_above cs zero at = omega arith
child_above none (suc k) at = omega arith
child_above (tree c cs) (suc k) at = omega (arith, child_above cs k (at + size c))

pub append_nil : (xs : List ℕ) → xs ++ [] ≡ xs
append_nil [] = refl
append_nil (x ∷ xs) = ap (λ l. x ∷ l) (append_nil xs)

-- a tree's bounds are its root's and those of the children
pub own_bound : (p : Plain) → (b : ℕ) × (bounds p ≡ b ∷ bounds_all (children_of p))
own_bound (Composite kind cs) = (1, refl)
own_bound (Star kind cs) = (count cs, refl)
own_bound (Par m cs) = (1, refl)
own_bound (Not c) = (1, ap (λ l. 1 ∷ l) (sym (append_nil (bounds c))))
own_bound (Tries k c) = (suc k, ap (λ l. suc k ∷ l) (sym (append_nil (bounds c))))
own_bound (Ticks k c) = (suc k, ap (λ l. suc k ∷ l) (sym (append_nil (bounds c))))
own_bound (Wait k) = (suc k, refl)
own_bound (Move p) = (1, refl)
own_bound (Does leaf) = (1, refl)

-- and the sizes of its subtrees are its own and those of the children
own_sizes : (p : Plain) → subtree_sizes p ≡ size p ∷ subtree_sizes_all (children_of p)
own_sizes (Not c) = ap (λ l. suc (size c) ∷ l) (sym (append_nil (subtree_sizes c)))
own_sizes (Tries k c) = ap (λ l. suc (size c) ∷ l) (sym (append_nil (subtree_sizes c)))
own_sizes (Ticks k c) = ap (λ l. suc (size c) ∷ l) (sym (append_nil (subtree_sizes c)))
own_sizes _ = refl

module _ (all : List ℕ) where
  segment_behind : (n b : ℕ) (part : List ℕ) → Segment all n (b ∷ part) → Segment all (n + 1) part
  segment_behind n b part h = record {
    within = omega (arith, h.within);
    same = λ k l. let e : n + 1 + k ≡ n + suc k = omega arith in ap (λ j. get_or all j 0) e ∙ h.same (suc k) (omega arith);
  }

  segment_left : (n : ℕ) (a b : List ℕ) → Segment all n (a ++ b) → Segment all n a
  segment_left n a b h = record {
    within = omega (arith, h.within, length-append a b);
    same = λ k l. h.same k (omega (arith, length-append a b)) ∙ get_or_append_left a b 0 k l;
  }

  segment_right : (n : ℕ) (a b : List ℕ) → Segment all n (a ++ b) → Segment all (n + length a) b
  segment_right n a b h = record {
    within = omega (arith, h.within, length-append a b);
    same = λ k l. let e : n + length a + k ≡ n + (length a + k) = omega arith in
        ap (λ j. get_or all j 0) e ∙ h.same (length a + k) (omega (arith, length-append a b)) ∙ get_or-append-add a b k 0;
  }

  segment_first : (n b : ℕ) (part : List ℕ) → Segment all n (b ∷ part) → get_or all n 0 ≡ b
  segment_first n b part h = let e : n ≡ n + 0 = omega arith in ap (λ k. get_or all k 0) e ∙ h.same 0 (omega arith)

  -- of numbers that stand one tree behind another, a number for each node
  module _ (of : Plain → List ℕ) (of_all : Forest → List ℕ) (joined : (c : Plain) (cs : Forest) → of_all (tree c cs) ≡ of c ++ of_all cs) (long : (c : Plain) → length (of c) ≡ size c) where
    segment_among : (cs : Forest) (k at : ℕ) (c : Plain) (rest : Forest) → from_child k cs ≡ tree c rest → Segment all at (of_all cs) → Segment all (child_number k cs at) (of c)
    segment_among none zero at c rest h s = absurd (cc)
    segment_among none (suc k) at c rest h s = absurd (cc)
    segment_among (tree c' cs) zero at c rest h s =
        let e : c' ≡ c = cc in
        subst (λ x. Segment all at (of x)) e (segment_left at (of c') (of_all cs) (subst (Segment all at) (joined c' cs) s))
    segment_among (tree c' cs) (suc k) at c rest h s =
        segment_among cs k (at + size c') c rest h
        (subst (λ m. Segment all (at + m) (of_all cs)) (long c') (segment_right at (of c') (of_all cs) (subst (Segment all at) (joined c' cs) s)))

    segment_child : (p : Plain) (n k own : ℕ) (c : Plain) (rest : Forest) → from_child k (children_of p) ≡ tree c rest → of p ≡ own ∷ of_all (children_of p)
        → Segment all n (of p) → Segment all (child_number k (children_of p) (n + 1)) (of c)
    segment_child p n k own c rest h e s = segment_among (children_of p) k (n + 1) c rest h (segment_behind n own (of_all (children_of p)) (subst (Segment all n) e s))

-- a child stands at its number
pub sits_child : (whole p : Plain) (n k : ℕ) (c : Plain) (rest : Forest) → from_child k (children_of p) ≡ tree c rest → Sits whole n p → Sits whole (child_number k (children_of p) (n + 1)) c
sits_child whole p n k c rest h s = record {
  bounded = (let own = own_bound p in segment_child (bounds whole) bounds bounds_all (λ c cs. refl) length-bounds p n k own.0 c rest h own.1 s.bounded);
  sized = segment_child (subtree_sizes whole) subtree_sizes subtree_sizes_all (λ c cs. refl) length-subtree_sizes p n k (size p) c rest h (own_sizes p) s.sized;
}

-- the root stands at 0
pub sits_whole : (whole : Plain) → Sits whole 0 whole
sits_whole whole = record { bounded = all (bounds whole); sized = all (subtree_sizes whole) }
  where
    all : (xs : List ℕ) → Segment xs 0 xs
    all xs = record { within = omega arith; same = λ k l. ap (λ j. get_or xs j 0) (zero-add k) }

-- a node's number in its tree is below the tree's size
pub sits_below : (whole p : Plain) (n : ℕ) → Sits whole n p → n + size p ≤ size whole
sits_below whole p n s = omega (arith, s.bounded.within, length-bounds p, length-bounds whole)

-- the bound of the node's own number
pub bound_at : (whole p : Plain) (n b : ℕ) (part : List ℕ) → bounds p ≡ b ∷ part → Sits whole n p → get_or (bounds whole) n 0 ≡ b
bound_at whole p n b part own s = segment_first (bounds whole) n b part (subst (Segment (bounds whole) n) own s.bounded)

-- the size of the node's own tree
pub size_at : (whole p : Plain) (n : ℕ) → Sits whole n p → get_or (subtree_sizes whole) n 0 ≡ size p
size_at whole p n s = segment_first (subtree_sizes whole) n (size p) (subtree_sizes_all (children_of p)) (subst (Segment (subtree_sizes whole) n) (own_sizes p) s.sized)
