-- The bounds of a memory: one for each node, each above 0 where each node that lists children has one, and each small
-- where a tree keeps the limits.
use Rattle.std.proofs.Common.{◌≡◌, ◌<◌, ◌≤◌, ℕ, suc, true, nat_le, List, [], ◌∷◌, length, All, refl, arith, length-append}
use Rattle.std.proofs.lemmas.Bool.{and_parts}
use Rattle.std.proofs.lemmas.Bool.Decides.{nat_tests}
use Rattle.std.proofs.lemmas.List.Elements.{All-cons, All-append, All-nil}
use Rattle.bt_nodes.specs.Plain.{Plain, Composite, Star, Par, Not, Tries, Ticks, Wait, Move, Does}
use Rattle.bt_nodes.specs.Plain.{Forest, none, tree}
use Rattle.bt_nodes.specs.Sizes.{size, sizes, count}
use Rattle.bt_nodes.specs.Bounds.{bounds, bounds_all}
use Rattle.bt_nodes.specs.Limits.{has_tree, is_count, keeps, all_keep}
use Rattle.bt_nodes.specs.declared.limits.Limit.TheVariants.{Children, Counts}
use Rattle.bt_nodes.proofs.AtLeastOne.{few_children}

mutual
  pub length-bounds : (p : Plain) → length (bounds p) ≡ size p
  length-bounds (Composite kind children) = omega (arith, length-bounds_all children)
  length-bounds (Star kind children) = omega (arith, length-bounds_all children)
  length-bounds (Par m children) = omega (arith, length-bounds_all children)
  length-bounds (Not child) = omega (arith, length-bounds child)
  length-bounds (Tries n child) = omega (arith, length-bounds child)
  length-bounds (Ticks n child) = omega (arith, length-bounds child)
  length-bounds _ = refl

  pub length-bounds_all : (children : Forest) → length (bounds_all children) ≡ sizes children
  length-bounds_all none = refl
  length-bounds_all (tree child children) =
      omega (
        arith,
        length-append (bounds child) (bounds_all children),
        length-bounds child,
        length-bounds_all children,
      )

positive : (n : ℕ) (bs : List ℕ) → All (λ b. 0 < b) bs → All (λ b. 0 < b) (suc n ∷ bs)
positive n bs h = let above : 0 < suc n = omega arith in All-cons (λ b. 0 < b) (suc n) bs above h

some_child : (children : Forest) → has_tree children ≡ true → 0 < count children
some_child none h = cc
some_child (tree child children) h = omega arith

mutual
  pub bounds-positive : (p : Plain) → keeps Children p ≡ true → All (λ b. 0 < b) (bounds p)
  bounds-positive (Composite kind children) h =
      positive 0 (bounds_all children)
      (bounds_all-positive children (and_parts (has_tree children) (all_keep Children children) h).1)
  bounds-positive (Star kind children) h =
      let parts = and_parts (has_tree children) (all_keep Children children) h in
      All-cons (λ b. 0 < b) (count children) (bounds_all children) (some_child children parts.0)
      (bounds_all-positive children parts.1)
  bounds-positive (Par m children) h =
      positive 0 (bounds_all children)
      (bounds_all-positive children (and_parts (has_tree children) (all_keep Children children) h).1)
  bounds-positive (Not child) h = positive 0 (bounds child) (bounds-positive child h)
  bounds-positive (Tries n child) h = positive n (bounds child) (bounds-positive child h)
  bounds-positive (Ticks n child) h = positive n (bounds child) (bounds-positive child h)
  bounds-positive (Wait n) h = positive n [] (All-nil (λ b. 0 < b))
  bounds-positive (Move p) h = positive 0 [] (All-nil (λ b. 0 < b))
  bounds-positive (Does leaf) h = positive 0 [] (All-nil (λ b. 0 < b))

  pub bounds_all-positive : (children : Forest) → all_keep Children children ≡ true → All (λ b. 0 < b) (bounds_all children)
  bounds_all-positive none h = All-nil (λ b. 0 < b)
  bounds_all-positive (tree child children) h =
      let parts = and_parts (keeps Children child) (all_keep Children children) h in
      All-append (λ b. 0 < b) (bounds child) (bounds_all children) (bounds-positive child parts.0)
      (bounds_all-positive children parts.1)

counted : (n : ℕ) → is_count n ≡ true → suc n ≤ 1001
counted n h =
    let e = (and_parts (nat_le 1 n) (nat_le n 1000) h).1 in
    let l : n ≤ 1000 = grind (arith, nat_tests) in
    omega (arith, l)

first_small : (b : ℕ) (bs : List ℕ) → b ≤ 1001 → All (λ b. b ≤ 1001) bs → All (λ b. b ≤ 1001) (b ∷ bs)
first_small b bs l h = All-cons (λ b. b ≤ 1001) b bs l h

mutual
  pub bounds-small : (p : Plain) → size p ≤ 255 → keeps Counts p ≡ true → All (λ b. b ≤ 1001) (bounds p)
  bounds-small (Composite kind cs) few h = first_small 1 (bounds_all cs) (omega arith) (bounds_all-small cs (omega (arith, few)) h)
  bounds-small (Star kind cs) few h = first_small (count cs) (bounds_all cs) (omega (arith, few, few_children cs)) (bounds_all-small cs (omega (arith, few)) h)
  bounds-small (Par m cs) few h = first_small 1 (bounds_all cs) (omega arith) (bounds_all-small cs (omega (arith, few)) h)
  bounds-small (Not c) few h = first_small 1 (bounds c) (omega arith) (bounds-small c (omega (arith, few)) h)
  bounds-small (Tries n c) few h =
      let parts = and_parts (is_count n) (keeps Counts c) h in
      first_small (suc n) (bounds c) (counted n parts.0) (bounds-small c (omega (arith, few)) parts.1)
  bounds-small (Ticks n c) few h =
      let parts = and_parts (is_count n) (keeps Counts c) h in
      first_small (suc n) (bounds c) (counted n parts.0) (bounds-small c (omega (arith, few)) parts.1)
  bounds-small (Wait n) few h = first_small (suc n) [] (counted n h) (All-nil (λ b. b ≤ 1001))
  bounds-small (Move p) few h = first_small 1 [] (omega arith) (All-nil (λ b. b ≤ 1001))
  bounds-small (Does leaf) few h = first_small 1 [] (omega arith) (All-nil (λ b. b ≤ 1001))

  bounds_all-small : (cs : Forest) → sizes cs ≤ 255 → all_keep Counts cs ≡ true → All (λ b. b ≤ 1001) (bounds_all cs)
  bounds_all-small none few h = All-nil (λ b. b ≤ 1001)
  bounds_all-small (tree c cs) few h =
      let parts = and_parts (keeps Counts c) (all_keep Counts cs) h in
      All-append (λ b. b ≤ 1001) (bounds c) (bounds_all cs) (bounds-small c (omega (arith, few)) parts.0) (bounds_all-small cs (omega (arith, few)) parts.1)
