use Rattle.std.proofs.Common.{◌≡◌, length}
use Rattle.stepping.specs.StateReading.{number_from}
use Rattle.stepping.proofs.state_words.number.Given as goal

abbrev pub invariant-digits : goal.invariant-digits
invariant-digits l = number_from l.value l.rest ≡ number_from 0 l.text

abbrev pub decreases-digits : goal.decreases-digits
decreases-digits l = length l.rest
