-- Where a node's children stand, and what they keep of its limits.
use Rattle.std.proofs.Common.{◌≡◌, ◌≤◌, ℕ, suc, ◌+◌, List, [], ◌∷◌, ◌++◌, length, get_or, refl, sym, ap, ◌∙◌, subst, arith, length-append}
use Rattle.std.proofs.lemmas.List.{get_or_append_left, get_or-append-add}
use Rattle.bt_nodes.specs.Plain.{Plain, Composite, Star, Par, Not, Tries, Ticks, Wait, Move, Does, Forest, none, tree, plain, plains}
use Rattle.bt_nodes.specs.Sizes.{size, sizes, subtree_sizes, subtree_sizes_all}
use Rattle.bt_nodes.specs.declared.node.Node.{Node}
use Rattle.bt_nodes.proofs.AtLeastOne.{one-le-size}
use Rattle.bt_nodes.proofs.SizeTables.{length-subtree_sizes}
use Rattle.bt_tick.specs.Places.{Segment}
use Rattle.stepping.specs.declared.counter.Counter.{Counter}
use Rattle.stepping.specs.declared.counter.Counter.TheVariants as counts
use Rattle.stepping.specs.Observing.{counting, StandsAt, StandAt, IsFirst}

module _ (all : List ℕ) where
  behind : (n b : ℕ) (part : List ℕ) → Segment all n (b ∷ part) → Segment all (n + 1) part
  behind n b part h = record {
    within = omega (arith, h.within);
    same = λ k l. let e : n + 1 + k ≡ n + suc k = omega arith in ap (λ j. get_or all j 0) e ∙ h.same (suc k) (omega (arith, l));
  }

  first : (n b : ℕ) (part : List ℕ) → Segment all n (b ∷ part) → get_or all n 0 ≡ b
  first n b part h = let e : n ≡ n + 0 = omega arith in ap (λ k. get_or all k 0) e ∙ h.same 0 (omega arith)

  left : (n : ℕ) (a b : List ℕ) → Segment all n (a ++ b) → Segment all n a
  left n a b h = record {
    within = (let w = h.within in let e = length-append a b in omega (arith, w, e));
    same = λ k l. h.same k (let e = length-append a b in omega (arith, l, e)) ∙ get_or_append_left a b 0 k l;
  }

  right : (n : ℕ) (a b : List ℕ) → Segment all n (a ++ b) → Segment all (n + length a) b
  right n a b h = record {
    within = (let w = h.within in let e = length-append a b in omega (arith, w, e));
    same = λ k l. let e : n + length a + k ≡ n + (length a + k) = omega arith in
        ap (λ j. get_or all j 0) e ∙ h.same (length a + k) (let f = length-append a b in omega (arith, l, f)) ∙ get_or-append-add a b k 0;
  }

own : (p : Plain) → (rest : List ℕ) × (subtree_sizes p ≡ size p ∷ rest)
own (Composite kind cs) = (subtree_sizes_all cs, refl)
own (Star kind cs) = (subtree_sizes_all cs, refl)
own (Par m cs) = (subtree_sizes_all cs, refl)
own (Not c) = (subtree_sizes c, refl)
own (Tries k c) = (subtree_sizes c, refl)
own (Ticks k c) = (subtree_sizes c, refl)
own (Wait k) = ([], refl)
own (Move p) = ([], refl)
own (Does leaf) = ([], refl)

module _ (whole : Plain) where
  pub size_here : (p : Plain) (n : ℕ) → StandsAt whole n p → get_or (subtree_sizes whole) n 0 ≡ size p
  size_here p n h = first (subtree_sizes whole) n (size p) (own p).0 (subst (Segment (subtree_sizes whole) n) (own p).1 h)

  pub within : (p : Plain) (n : ℕ) → StandsAt whole n p → n + size p ≤ size whole
  within p n h = let w = h.within in let a = length-subtree_sizes p in let b = length-subtree_sizes whole in omega (arith, w, a, b)

  pub root : StandsAt whole 0 whole
  root = record { within = omega arith; same = λ k l. let e : 0 + k ≡ k = omega arith in ap (λ j. get_or (subtree_sizes whole) j 0) e }

  -- the children of a node with the number n
  pub below : (n b : ℕ) (part : List ℕ) → Segment (subtree_sizes whole) n (b ∷ part) → Segment (subtree_sizes whole) (n + 1) part
  below n b part h = behind (subtree_sizes whole) n b part h

  -- the child of a decorator that counts
  pub counted_stands : (by : Counter) (most : ℕ) (c : Plain) (n : ℕ) → StandsAt whole n (counting by most c) → StandsAt whole (n + 1) c
  counted_stands counts.Failures most c n h = below n _ _ h
  counted_stands counts.Ticks most c n h = below n _ _ h

  pub counted_within : (by : Counter) (most : ℕ) (c : Plain) (n : ℕ) → StandsAt whole n (counting by most c) → n + suc (size c) ≤ size whole
  counted_within counts.Failures most c n h = within (Tries most c) n h
  counted_within counts.Ticks most c n h = within (Ticks most c) n h

  first_child : (c : Plain) (cs : Forest) (n : ℕ) → StandAt whole n (tree c cs) → StandsAt whole n c
  first_child c cs n h = left (subtree_sizes whole) n (subtree_sizes c) (subtree_sizes_all cs) h

  other_children : (c : Plain) (cs : Forest) (n : ℕ) → StandAt whole n (tree c cs) → StandAt whole (n + size c) cs
  other_children c cs n h =
      subst (λ k. Segment (subtree_sizes whole) (n + k) (subtree_sizes_all cs)) (length-subtree_sizes c)
      (right (subtree_sizes whole) n (subtree_sizes c) (subtree_sizes_all cs) h)

pub none_left : {A : Type 0} (nodes : List (Node A)) → length nodes ≡ 0 → plains nodes ≡ none
none_left [] e = refl
none_left (x ∷ xs) e = absurd (omega (arith, e))

module _ {A : Type 0} (whole : Plain) (nodes rest : List (Node A)) (x : Node A) (n : ℕ) (e : nodes ≡ x ∷ rest) (stand : StandAt whole n (plains nodes)) where
  all_stand : StandAt whole n (tree (plain x) (plains rest))
  all_stand = subst (StandAt whole n) (ap plains e) stand

  pub first_stands : StandsAt whole n (plain x)
  first_stands = first_child whole (plain x) (plains rest) n all_stand

  pub first_within : n + size (plain x) ≤ size whole
  first_within = within whole (plain x) n first_stands

  pub is_first : (next : ℕ) → size whole ≤ 255 → next ≡ n + size (plain x) → IsFirst whole (plains nodes) n (plain x) (plains rest) next
  is_first next few behind =
      let onward : StandAt whole next (plains rest) = subst (λ (k : ℕ). StandAt whole k (plains rest)) (sym behind) (other_children whole (plain x) (plains rest) n all_stand) in
      let one = one-le-size (plain x) in
      let last = first_within in
      record {
        is = ap plains e;
        many = ap (λ l. sizes (plains l)) e;
        behind = behind;
        later = omega (arith, one, behind);
        within = omega (arith, last, few, behind);
        stands = first_stands;
        stand = onward;
      }
