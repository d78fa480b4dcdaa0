use Rattle.std.proofs.Common.{ap, ◌∙◌, sym, ◌++◌, ◌∷◌, append_assoc, drop, ◌+◌, string_bytes}
use Rattle.std.specs.Str.{chars}
use Rattle.grid_world.specs.Map.{marks_of}
use Rattle.grid_world.specs.MapFaults.{rows_of}
use Rattle.grid_world.proofs.Rows.{rows_of-left}
use Rattle.grid_world.proofs.map.marks_in.Goals as goal

pub rows-preserved : goal.rows-preserved
rows-preserved c =
    let l = c.rows in
    let left = marks_of (rows_of (drop (l.row-index + 1) c.args.rows.now)) in
    ap (λ ms. ms ++ left) (c.in_ok-append.ensures.items ∙ ap (λ ms. l.marks.items ++ ms) c.in_ok-more.ensures)
    ∙ append_assoc l.marks.items (chars (string_bytes c.row-item.result)) left
    ∙ sym (ap (λ rs. l.marks.items ++ marks_of rs)
    (rows_of-left c.args.rows.now l.row-index c.row-item.result c.rows-test.true
    ∙ ap (λ t. chars (string_bytes t) ∷ rows_of (drop (l.row-index + 1) c.args.rows.now))
    (sym c.row-item.is))) ∙ l.invariant
