use Rattle.std.proofs.Common.{◌≡◌, ◌-◌}
use Rattle.std.specs.List.{list_all}
use Rattle.grid_world.specs.Map.{count_up}
use Rattle.grid_world.specs.MapFaults.{letter_fits, digit_fits}
use Rattle.grid_world.proofs.map.has_letters.Given as goal

abbrev pub invariant-letters : goal.invariant-letters
invariant-letters l = list_all (letter_fits l.marks l.letters) (count_up l.k (26 - l.k))
    ≡ list_all (letter_fits l.marks l.letters) (count_up 0 26)

abbrev pub invariant-digits : goal.invariant-digits
invariant-digits l = list_all (digit_fits l.marks) (count_up l.d (10 - l.d))
    ≡ list_all (digit_fits l.marks) (count_up 0 10)
