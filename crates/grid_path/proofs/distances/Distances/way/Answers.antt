use Rattle.std.proofs.Common.{◌≢◌, ◌∙◌, nat_lt, length, sym, ap}
use Rattle.std.proofs.lemmas.Bool.{both_ways, ltb-true}
use Rattle.grid_world.specs.Grid.{Point, same_point}
use Rattle.grid_world.specs.World.{point}
use Rattle.grid_world.proofs.Rows.{and_parts}
use Rattle.grid_world.proofs.Simple.{eq-same_point}
use Rattle.grid_path.proofs.Cells.{IsIn}
use Rattle.grid_path.proofs.Measured.{marks_way, in_marks}
use Rattle.grid_path.proofs.distances.Distances.way.Goals as goal

pub nearest-requires-clause-below : goal.nearest-requires-clause-below
nearest-requires-clause-below c =
    let world = c.args.world.now in
    let inside = and_parts (nat_lt c.args.from.0 world.width) (nat_lt c.args.from.1 world.height) c.requires.from in
    in_marks world (point c.args.from.0 c.args.from.1) c.width.result c.number_of.result (length c.deref.result.now) c.width.ensures.value c.number_of.ensures
    (ltb-true c.args.from.0 world.width inside.0) (ltb-true c.args.from.1 world.height inside.1)
    (ap length (c.deref.ensures.value ∙ c.self.view_is) ∙ c.requires.long)

pub returns : goal.returns
returns c on are =
    let world = c.args.world.now in
    let from : Point = point c.args.from.0 c.args.from.1 in
    let to : Point = point c.in-Some.goal.0 c.in-Some.goal.1 in
    let inside = and_parts (nat_lt c.args.from.0 world.width) (nat_lt c.args.from.1 world.height) c.requires.from in
    let in_from : IsIn world from = record {
      column = ltb-true c.args.from.0 world.width inside.0;
      row = ltb-true c.args.from.1 world.height inside.1;
    } in
    let apart : from ≢ to = λ e. both_ways (same_point to from) (sym c.if-eq.ensures) (eq-same_point to from (sym e)) in
    marks_way world on from to c.args.place c.args.self.now c.deref.result.now c.width.result c.number_of.result c.nearest.result
    c.width.ensures.world.sized are (sym (c.deref.ensures.value ∙ c.self.view_is)) c.width.ensures.value c.number_of.ensures in_from (sym c.in-Some.ensures) apart
    c.nearest.ensures
