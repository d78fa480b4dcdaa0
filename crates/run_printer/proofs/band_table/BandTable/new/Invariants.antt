use Rattle.std.proofs.Common.{◌≡◌, replicate, None, vec_items}
use Rattle.run_printer.proofs.band_table.BandTable.new.Given as goal

-- as many rows as were pushed
abbrev pub invariant-loop-frame : goal.invariant-loop-frame
invariant-loop-frame g l = vec_items l.rows ≡ replicate l._frame (replicate l.bands None)
