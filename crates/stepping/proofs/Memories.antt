-- The numbers of a memory.
use Rattle.std.proofs.Common.{◌≡◌, ◌<◌, ◌≤◌, ◌+◌, ◌^◌, ◌++◌, ◌∷◌, [], ℕ, List, length, get_or, drop, sym, ap, ◌∙◌, arith, append_assoc, append-nil, Some}
use Rattle.std.specs.Prelude.{slice_get}
use Rattle.std.proofs.lemmas.List.{drop_more, drop_all}
use Rattle.std.proofs.lemmas.Option.{get_or_from_slice_get}
use Rattle.bt_nodes.specs.Bounds.{Fits, bounds}
use Rattle.bt_nodes.specs.Trees.{plain_of}
use Rattle.bt_nodes.specs.declared.tree.Tree.{Tree}
use Rattle.bt_nodes.proofs.MemoryBounds.{bounds-small}
use Rattle.bt_nodes.proofs.WithinLimits.{tree_within}

-- each takes two bytes
pub number_small : {T : Type 0} (t : Tree T) (m : List ℕ) (i x : ℕ) → Fits (plain_of t) m → i < length m → get_or m i 0 ≡ x → x < 2 ^ 16
number_small t m i x fits l is =
    let within = tree_within t in
    let inside : i < length (bounds (plain_of t)) = omega (arith, l, fits.same_length) in
    let bound : get_or (bounds (plain_of t)) i 0 ≤ 1001 = bounds-small (plain_of t) within.few within.counts i 0 inside in
    omega (arith, fits.below i l, bound, is)

-- one that was looked up
pub number_at : (m : List ℕ) (many i x : ℕ) → length m ≡ many → i < many → slice_get m i ≡ Some x → (i < length m) × (get_or m i x ≡ x)
number_at m many i x long inside is = (omega (arith, long, inside), get_or_from_slice_get m i x x is)

-- ---- a list that is copied element by element

pub one_more : {X : Type 0} (xs all : List X) (i : ℕ) (d x : X) → i < length all → get_or all i d ≡ x → xs ++ drop i all ≡ all → (xs ++ x ∷ []) ++ drop (i + 1) all ≡ all
one_more xs all i d x l is e =
    append_assoc xs (x ∷ []) (drop (i + 1) all) ∙ sym (ap (λ r. xs ++ r) (drop_more all i d l ∙ ap (λ y. y ∷ drop (i + 1) all) is)) ∙ e

pub no_more : {X : Type 0} (xs all : List X) (i : ℕ) → length all ≤ i → xs ++ drop i all ≡ all → xs ≡ all
no_more xs all i l e = sym (append-nil xs) ∙ sym (ap (λ r. xs ++ r) (drop_all i all l)) ∙ e
