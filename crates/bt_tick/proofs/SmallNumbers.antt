-- Each number that a tree's nodes remember or keep while they are open is small, since the tree keeps the limits.
use Rattle.std.proofs.Common.{◌≡◌, ◌+◌, ◌<◌, ◌≤◌, ◌^◌, ℕ, zero, suc, List, [], ◌∷◌, get_or, All, arith}
use Rattle.std.proofs.lemmas.List.Elements.{All-head, All-tail}
use Rattle.bt_nodes.specs.Plain.{Plain}
use Rattle.bt_nodes.specs.Sizes.{count}
use Rattle.bt_nodes.specs.Bounds.{bounds}
use Rattle.bt_nodes.specs.Trees.{plain_of}
use Rattle.bt_nodes.specs.declared.tree.Tree.{Tree}
use Rattle.bt_nodes.proofs.AtLeastOne.{few_children}
use Rattle.bt_nodes.proofs.MemoryBounds.{bounds-small}
use Rattle.bt_nodes.proofs.WithinLimits.{tree_within}
use Rattle.bt_tick.specs.Children.{children_of}
use Rattle.bt_tick.specs.Places.{Sits}
use Rattle.bt_tick.proofs.Trees.{size-children, sits_below, bound_at}

abbrev AreSmall : List ℕ → Type 0
AreSmall = All (λ b. b ≤ 1001)

small_at : (bs : List ℕ) → AreSmall bs → (n : ℕ) → get_or bs n 0 ≤ 1001
small_at [] h zero = omega arith
small_at [] h (suc n) = omega arith
small_at (b ∷ bs) h zero = All-head (λ b. b ≤ 1001) b bs h
small_at (b ∷ bs) h (suc n) = small_at bs (All-tail (λ b. b ≤ 1001) b bs h) n

-- a number below the bound of a node's own takes two bytes
pub small : {T : Type 0} (t : Tree T) (p : Plain) (n b v : ℕ) (part : List ℕ) → bounds p ≡ b ∷ part → Sits (plain_of t) n p → v < b → v < 2 ^ 16
small t p n b v part own sits l =
    let within = tree_within t in
    let bound = small_at (bounds (plain_of t)) (bounds-small (plain_of t) within.few within.counts) n in
    omega (arith, bound, bound_at (plain_of t) p n b part own sits, l)

module _ {T : Type 0} (t : Tree T) (p : Plain) (n : ℕ) (sits : Sits (plain_of t) n p) where
  -- so does a node's number
  pub number_small : n < 2 ^ 16
  number_small = omega (arith, sits_below (plain_of t) p n sits, (tree_within t).few)

  -- and the index of the child after one
  pub next_small : (k : ℕ) → k ≤ count (children_of p) → k + 1 < 2 ^ 16
  next_small k l = omega (arith, l, few_children (children_of p), size-children p, sits_below (plain_of t) p n sits, (tree_within t).few)
