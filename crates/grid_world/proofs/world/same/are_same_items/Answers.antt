use Rattle.std.proofs.Common.{◌≡◌, true}
use Rattle.std.specs.Bool.{Decides}
use Rattle.std.specs.Cmp.{booleans_Decides}
use Rattle.std.proofs.lemmas.Slice.Eq.{slice_eq-Decides}
use Rattle.grid_world.proofs.world.same.are_same_items.Goals as goal

pub returns-clause-same : goal.returns-clause-same
returns-clause-same c = let h : Decides c.eq.result (c.args.items.now ≡ c.args.others.now) = slice_eq-Decides booleans_Decides _ _ _ c.eq.ensures in h.0

pub returns-clause-differs : goal.returns-clause-differs
returns-clause-differs c not_same same =
    let h : Decides c.eq.result (c.args.items.now ≡ c.args.others.now) = slice_eq-Decides booleans_Decides _ _ _ c.eq.ensures in
    let yes : c.eq.result ≡ true = h.1 same in cc
