use Rattle.std.proofs.Common.{◌≡◌, ◌≤◌, drop}
use Rattle.draw_list.specs.Bands.{gap_from}
use Rattle.draw_list.proofs.gap.first_gap.Given as goal

abbrev pub invariant-bands : goal.invariant-bands
invariant-bands l = record {
  within : l.place ≤ l.count;
  left : gap_from l.width l.height l.place (drop l.band-index l.bands) ≡ gap_from l.width l.height 0 l.bands;
}
