use Rattle.std.proofs.Common.{◌≡◌, ◌≤◌, ◌+◌, ◌-◌, arith, subst, sym}
use Rattle.std.specs.List.Sorted.{IsPermutation}
use Rattle.std.proofs.lemmas.List.Sorted.{IsPermutation-trans, IsPermutation-put_mid}
use Rattle.frame_parts.specs.declared.distance_field.DistanceField.{DistanceField}
use Rattle.frame_parts.proofs.distance_cache.put_under_first.Goals as goal
use Rattle.frame_parts.proofs.distance_cache.put_under_first.Goals.{then-is_under, else-is_under}

pub all-preserved : goal.all-preserved
all-preserved c = elim c.if-is_under.branch [
  | then-is_under w ↦ record {
    moved = subst (IsPermutation c.args.all.now) (sym w.all-is)
        (IsPermutation-trans c.args.all.now c.all.all _ c.all.invariant.moved
        (IsPermutation-put_mid c.all.first (c.all.at + 1 - c.all.first) c.all.all w.rotate_right.new.self w.rotate_right.ensures.permutation));
    first = omega (arith, c.all.invariant.first, w.first-is);
  }
  | else-is_under w ↦ record {
    moved = subst (IsPermutation c.args.all.now) (sym w.all-is) c.all.invariant.moved;
    first = omega (arith, c.all.invariant.first, w.first-is);
  }
]
