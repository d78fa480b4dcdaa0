use Rattle.std.proofs.Common.{All, refl, map, ◌==◌, ◌≤◌, ap, ◌∙◌, sym, arith, length, subst}
use Rattle.std.proofs.lemmas.List.{length-map}
use Rattle.std.specs.Str.{chars}
use Rattle.std.proofs.Common.{string_bytes}
use Rattle.grid_world.specs.MapFaults.{rows_of}
use Rattle.grid_world.proofs.Rows.{IsRectangle-from_size, few_marks}
use Rattle.grid_world.proofs.MapWorld.{AreParts, IsWorld-parts, IsSized-parts}
use Rattle.grid_world.specs.Map.{cell_of}
use Rattle.grid_world.specs.Rows.{IsPlaced}
use Rattle.grid_world.proofs.Lined.{cells-placed}
use Rattle.grid_world.proofs.world.World.from_rows.Goals as goal

pub overflow_cast-at : goal.overflow_cast-at
overflow_cast-at c =
    let size = IsRectangle-from_size (rows_of c.args.rows.now)
    (sym c.has_size.ensures ∙ c.if-not-has_size.false) in
    let few : length c.deref.result.now ≤ 16384 = rw (c.deref.ensures.value, c.in_ok-marks.ensures)
    (few_marks _ size) in
    grind (arith, few, c.in-Some.ensures)

pub agents_in-requires-clause-few : goal.agents_in-requires-clause-few
agents_in-requires-clause-few c =
    let size = IsRectangle-from_size (rows_of c.args.rows.now)
    (sym c.has_size.ensures ∙ c.if-not-has_size.false) in
    rw (c.deref-5.ensures.value, c.in_ok-marks.ensures) (few_marks _ size)

pub new-requires-clause-sized : goal.new-requires-clause-sized
new-requires-clause-sized c =
    let rows = rows_of c.args.rows.now in
    let size = IsRectangle-from_size rows (sym c.has_size.ensures ∙ c.if-not-has_size.false) in
    IsSized-parts rows size _ _ _ (record {
      wide = c.first_width-columns.ensures;
      high = sym (length-map c.args.rows.now (λ text. chars (string_bytes text)));
      ground = c.in_ok-kinds.ensures ∙ ap (map cell_of) (c.deref-3.ensures.value ∙ c.in_ok-marks.ensures);
    })

pub invariant_of-result : goal.invariant_of-result
invariant_of-result c =
    let rows = rows_of c.args.rows.now in
    let size = IsRectangle-from_size rows (sym c.has_size.ensures ∙ c.if-not-has_size.false) in
    let parts : AreParts rows c.first_width-columns.result
    (length c.args.rows.now) c.in_ok-kinds.kinds.items = record {
      wide = c.first_width-columns.ensures;
      high = sym (length-map c.args.rows.now (λ text. chars (string_bytes text)));
      ground = c.in_ok-kinds.ensures ∙ ap (map cell_of) (c.deref-3.ensures.value ∙ c.in_ok-marks.ensures);
    } in
    rw (c.in-Ok.ensures.ok, c.in_ok-ground.ensures)
    (IsWorld-parts rows size _ _ _ _ _ parts
    (c.in_ok-has_item.ensures ∙ c.in_ok-items.ensures ∙ ap (map (λ c. c == 42)) (c.deref-4.ensures.value ∙ c.in_ok-marks.ensures))
    (c.in_ok-crew.ensures
    ∙ rw (c.first_width-columns.ensures, c.deref-5.ensures.value, c.in_ok-marks.ensures) refl))

pub new-requires-clause-placed : goal.new-requires-clause-placed
new-requires-clause-placed c =
    subst (All IsPlaced) (sym (c.in_ok-kinds.ensures)) (cells-placed c.deref-3.result.now)
