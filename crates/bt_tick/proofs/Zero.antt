-- The zero memory fits its tree.
use Rattle.std.proofs.Common.{◌<◌, get_or, sym, ◌∙◌, subst, arith}
use Rattle.std.proofs.lemmas.List.{get_or-replicate, length-replicate}
use Rattle.bt_nodes.specs.Plain.{Plain}
use Rattle.bt_nodes.specs.Sizes.{size}
use Rattle.bt_nodes.specs.Bounds.{bounds, Fits, zero_memory}
use Rattle.bt_nodes.specs.Trees.{plain_of}
use Rattle.bt_nodes.specs.declared.tree.Tree.{Tree}
use Rattle.bt_nodes.proofs.MemoryBounds.{length-bounds, bounds-positive}
use Rattle.bt_nodes.proofs.WithinLimits.{tree_within}

pub zero_fits : {T : Type 0} (t : Tree T) → Fits (plain_of t) (zero_memory (plain_of t))
zero_fits t =
    let p : Plain = plain_of t in
    let n = length-replicate (size p) 0 in
    record {
      same_length = n ∙ sym (length-bounds p);
      below = λ k w.
          let l : k < size p = omega (arith, w, n) in
          subst (λ x. x < get_or (bounds p) k 0) (sym (get_or-replicate (size p) k 0 0 l)) (bounds-positive p (tree_within t).children k 0 (omega (arith, l, length-bounds p)));
    }
