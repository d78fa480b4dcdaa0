use Rattle.std.proofs.Common.{◌≡◌}
use Rattle.std.specs.Bool.{Decides}
use Rattle.std.specs.Cmp.{booleans_Decides}
use Rattle.std.proofs.lemmas.Slice.Eq.{slice_eq-Decides}
use Rattle.std.proofs.lemmas.Bool.{both_ways}
use Rattle.stepping.proofs.same.are_same_signals.Goals as goal

pub returns-clause-same : goal.returns-clause-same
returns-clause-same c t =
    let same : Decides c.eq.result (c.args.signals ≡ c.args.others) = slice_eq-Decides booleans_Decides _ _ _ c.eq.ensures in
    same.0 t

pub returns-clause-differs : goal.returns-clause-differs
returns-clause-differs c f e =
    let same : Decides c.eq.result (c.args.signals ≡ c.args.others) = slice_eq-Decides booleans_Decides _ _ _ c.eq.ensures in
    both_ways c.eq.result f (same.1 e)
