-- A table in which the sizes of subtrees stand one behind another.
use Rattle.std.proofs.Common.{◌≡◌, ℕ, ◌+◌, ◌-◌, ◌<◌, ◌≤◌, List, [], ◌∷◌, ◌++◌, length, get_or, set, take, drop, Some, None, sym, ap, ◌∙◌, refl, arith, append_assoc, append-nil, length-append}
use Rattle.std.proofs.lemmas.List.{take_more, length-take-le}
use Rattle.std.proofs.Math.Seq.{take-set-lt, set-append_seam}
use Rattle.bt_nodes.specs.Plain.{Plain, Composite, Star, Par, Not, Tries, Ticks, Forest, none, tree, plain, plains}
use Rattle.bt_nodes.specs.Sizes.{size, sizes, subtree_sizes, subtree_sizes_all}
use Rattle.bt_nodes.specs.declared.node.Node.{Node}
use Rattle.bt_nodes.specs.Heads.{listed, decorated}
use Rattle.bt_nodes.proofs.AtLeastOne.{one-le-size}
use Rattle.bt_nodes.proofs.Below.{size-listed, size-decorated, subtree_sizes-listed, subtree_sizes-decorated}
use Rattle.bt_nodes.proofs.Forests.{plains-drop, plains-end}

mutual
  pub length-subtree_sizes : (p : Plain) → length (subtree_sizes p) ≡ size p
  length-subtree_sizes (Composite kind children) = omega (arith, length-subtree_sizes_all children)
  length-subtree_sizes (Star kind children) = omega (arith, length-subtree_sizes_all children)
  length-subtree_sizes (Par m children) = omega (arith, length-subtree_sizes_all children)
  length-subtree_sizes (Not child) = omega (arith, length-subtree_sizes child)
  length-subtree_sizes (Tries n child) = omega (arith, length-subtree_sizes child)
  length-subtree_sizes (Ticks n child) = omega (arith, length-subtree_sizes child)
  length-subtree_sizes _ = refl

  pub length-subtree_sizes_all : (children : Forest) → length (subtree_sizes_all children) ≡ sizes children
  length-subtree_sizes_all none = refl
  length-subtree_sizes_all (tree child children) =
      omega (arith, length-append (subtree_sizes child) (subtree_sizes_all children), length-subtree_sizes child, length-subtree_sizes_all children)

-- a number is written in front of those that stand behind its place
pub written_first : (old now : List ℕ) (at next v : ℕ) (part : List ℕ) → at < length old → at < next
    → take next now ≡ take (at + 1) old ++ part → take next (set now at v) ≡ take at old ++ v ∷ part
written_first old now at next v part room later e =
    let n : length (take at old) ≡ at = length-take-le at old (omega (arith, room)) in
    take-set-lt next now at v later
    ∙ ap (λ l. set l at v) (e ∙ ap (λ l. l ++ part) (take_more old at 0 room) ∙ append_assoc (take at old) (get_or old at 0 ∷ []) part)
    ∙ ap (λ k. set (take at old ++ get_or old at 0 ∷ part) k v) (sym n)
    ∙ set-append_seam (take at old) (get_or old at 0) part v

-- the table where the sizes below a root are written, behind the place of its own
pub record Below (p : Plain) (at next : ℕ) (old now : List ℕ) : Type 0 where
  pub part : List ℕ
  pub is : subtree_sizes p ≡ size p ∷ part
  pub behind : next ≡ at + size p
  pub written : take next now ≡ take (at + 1) old ++ part

module _ (p : Plain) (at next next' : ℕ) (old now now' : List ℕ) (moved : next ≡ next') (kept : now ≡ now') where
  pub below_listed : (cs : Forest) → None ≡ decorated p → cs ≡ listed p → next' ≡ at + 1 + sizes cs → take next' now' ≡ take (at + 1) old ++ subtree_sizes_all cs
      → Below p at next old now
  below_listed cs decorates_none is behind written = record {
    part = subtree_sizes_all cs;
    is = subtree_sizes-listed p decorates_none ∙ ap (λ cs. size p ∷ subtree_sizes_all cs) (sym is);
    behind = omega (arith, size-listed p decorates_none, ap sizes is);
    written = ap (λ n. take n now) moved ∙ ap (take next') kept ∙ written;
  }

  pub below_decorated : (c : Plain) → Some c ≡ decorated p → next' ≡ at + 1 + size c → take next' now' ≡ take (at + 1) old ++ subtree_sizes c
      → Below p at next old now
  below_decorated c is behind written = record {
    part = subtree_sizes c;
    is = subtree_sizes-decorated p c is;
    behind = omega (arith, size-decorated p c is);
    written = ap (λ n. take n now) moved ∙ ap (take next') kept ∙ written;
  }

-- then its own is
pub own_written : (p : Plain) (at next : ℕ) (old now after : List ℕ) → Below p at next old now → after ≡ set now at (next - at) → at < length old
    → take next after ≡ take at old ++ subtree_sizes p
own_written p at next old now after below is room =
    let own : next - at ≡ size p = omega (arith, below.behind) in
    ap (take next) is
    ∙ written_first old now at next (next - at) below.part room (omega (arith, below.behind, one-le-size p)) below.written
    ∙ ap (λ n. take at old ++ n ∷ below.part) own
    ∙ ap (λ l. take at old ++ l) (sym below.is)

module _ {A : Type 0} (nodes : List (Node A)) (i : ℕ) where
  -- one more tree is written
  pub written_more : (now after first : List ℕ) (next next' : ℕ) (node : Node A) → i < length nodes → node ≡ get_or nodes i node
      → take next now ++ subtree_sizes_all (plains (drop i nodes)) ≡ first
      → take next' after ≡ take next now ++ subtree_sizes (plain node)
      → take next' after ++ subtree_sizes_all (plains (drop (i + 1) nodes)) ≡ first
  written_more now after first next next' node h is left e =
      let rest : List ℕ = subtree_sizes_all (plains (drop (i + 1) nodes)) in
      let part : subtree_sizes_all (plains (drop i nodes)) ≡ subtree_sizes (plain node) ++ rest =
      ap subtree_sizes_all (plains-drop nodes i node h) ∙ ap (λ n. subtree_sizes (plain n) ++ rest) (sym is) in
      ap (λ l. l ++ rest) e ∙ append_assoc (take next now) (subtree_sizes (plain node)) rest ∙ ap (λ l. take next now ++ l) (sym part) ∙ left

  -- all trees are
  pub written_all : (now first : List ℕ) (next : ℕ) → length nodes ≤ i → take next now ++ subtree_sizes_all (plains (drop i nodes)) ≡ first → take next now ≡ first
  written_all now first next h left = sym (append-nil (take next now)) ∙ ap (λ cs. take next now ++ subtree_sizes_all cs) (sym (plains-end nodes i h)) ∙ left
