use Rattle.std.proofs.Common.{◌≢◌, arith, sym}
use Rattle.std.proofs.lemmas.Bool.{both_ways}
use Rattle.grid_world.specs.Grid.{Point, same_point}
use Rattle.grid_world.specs.World.{point}
use Rattle.grid_world.proofs.Simple.{eq-same_point}
use Rattle.grid_path.proofs.Cells.{IsIn}
use Rattle.grid_path.proofs.Asked.{asked_inner, asked_goal, asked_way}
use Rattle.grid_path.proofs.question.ask.Goals as goal

pub search-requires-clause-inner : goal.search-requires-clause-inner
search-requires-clause-inner g c =
    asked_inner c.args.world.now c.args.signals c.in_ok-unmet.unmet.items c.deref_mut.result.now c.width-2.result
    c.in_ok-unmet.ensures c.deref_mut.ensures.value c.width-2.ensures.value

pub search-requires-clause-goal : goal.search-requires-clause-goal
search-requires-clause-goal g c =
    asked_goal c.args.world.now c.args.signals c.in_ok-unmet.unmet.items c.deref_mut.result.now (point c.in-Some.goal.0 c.in-Some.goal.1)
    c.number_of-2.result c.args.place c.width.ensures.world.sized c.in_ok-unmet.ensures c.deref_mut.ensures.value c.number_of-2.ensures
    (sym c.in-Some.ensures)

pub returns-clause-way : goal.returns-clause-way
returns-clause-way g c =
    let world = c.args.world.now in
    let from : Point = point c.args.from.0 c.args.from.1 in
    let to : Point = point c.in-Some.goal.0 c.in-Some.goal.1 in
    let in_from : IsIn world from = record { column = omega arith; row = omega arith } in
    let apart : from ≢ to = λ e. both_ways (same_point to from) (sym c.if-eq.ensures) (eq-same_point to from (sym e)) in
    asked_way world c.args.signals c.in_ok-unmet.unmet.items c.deref_mut.result.now from to c.width-2.result c.number_of.result c.number_of-2.result c.args.place
    c.search.result c.width.ensures.world.sized c.in_ok-unmet.ensures c.deref_mut.ensures.value c.width-2.ensures.value
    c.number_of.ensures c.number_of-2.ensures in_from (sym c.in-Some.ensures) apart c.search.ensures
