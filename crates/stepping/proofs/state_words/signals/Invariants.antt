use Rattle.std.proofs.Common.{◌≡◌, length}
use Rattle.grid_world.specs.Ground.{no_signals}
use Rattle.stepping.specs.StateReading.{signals_from}
use Rattle.stepping.proofs.state_words.signals.Given as goal

abbrev pub invariant-letters : goal.invariant-letters
invariant-letters l = signals_from l.on l.rest ≡ signals_from no_signals l.text

abbrev pub decreases-letters : goal.decreases-letters
decreases-letters l = length l.rest
