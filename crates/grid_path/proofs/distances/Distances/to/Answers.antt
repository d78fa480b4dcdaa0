use Rattle.std.proofs.Common.{◌≡◌, ℕ, List, length, arith, sym, subst}
use Rattle.grid_world.specs.World.{point}
use Rattle.grid_path.specs.Distances.{AreDistances}
use Rattle.grid_path.proofs.Asked.{asked_inner, asked_goal}
use Rattle.grid_path.proofs.Measured.{are_distances, written}
use Rattle.grid_path.proofs.distances.Distances.to.Goals as goal

pub measure-requires-clause-inner : goal.measure-requires-clause-inner
measure-requires-clause-inner g c =
    asked_inner c.args.world.now c.args.signals c.in_ok-unmet.unmet.items c.deref_mut.result.now c.width.result
    c.in_ok-unmet.ensures c.deref_mut.ensures.value c.width.ensures.value

pub measure-requires-clause-goal : goal.measure-requires-clause-goal
measure-requires-clause-goal g c =
    asked_goal c.args.world.now c.args.signals c.in_ok-unmet.unmet.items c.deref_mut.result.now (point c.in-Some.goal.0 c.in-Some.goal.1)
    c.number_of.result c.args.place c.width.ensures.world.sized c.in_ok-unmet.ensures c.deref_mut.ensures.value c.number_of.ensures
    (sym c.in-Some.ensures)

pub returns-clause-distances : goal.returns-clause-distances
returns-clause-distances g c =
    let long = c.measure.ensures.long in
    let now : length c.measure.new.marks ≡ c.in_ok-marks.marks.len = omega (arith, long, c.deref_mut-3.ensures.len) in
    let tall : length c.measure.new.marks ≡ length c.in_ok-unmet.unmet.items =
    omega (arith, now, c.in_ok-marks.ensures.len, c.len-2.ensures) in
    subst (λ (marks : List ℕ). AreDistances c.args.world.now c.args.signals c.args.place marks)
    (sym (written c.in_ok-marks.marks.len c.measure.new.marks c.in_ok-marks.marks.items now))
    (are_distances c.args.world.now c.args.signals c.args.place c.in_ok-unmet.unmet.items c.deref_mut.result.now (point c.in-Some.goal.0 c.in-Some.goal.1)
    c.width.result c.number_of.result c.measure.new.marks c.in_ok-unmet.ensures c.deref_mut.ensures.value c.width.ensures.value
    c.number_of.ensures (sym c.in-Some.ensures) tall c.measure.ensures.measured)
