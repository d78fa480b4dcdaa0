use Rattle.std.proofs.Common.{◌≡◌, map}
use Rattle.grid_world.proofs.Lined.{opened_below}
use Rattle.grid_world.proofs.signal.Signals.open_doors.Given as goal

abbrev pub invariant-letters : goal.invariant-letters
invariant-letters l = l.text ≡ map (opened_below l.number l.self) l.fn.text
