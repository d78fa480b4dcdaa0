use Rattle.std.proofs.Common.{◌≡◌, ◌++◌, drop}
use Rattle.std.specs.List.{flat_map}
use Rattle.draw_list.proofs.lines.push_rows.Given as goal

abbrev pub invariant-bands : goal.invariant-bands
invariant-bands l = l.text.items ++ flat_map (λ b. b.rows) (drop l.band-index l.bands) ≡ l.initial.text.items ++ flat_map (λ b. b.rows) l.bands
