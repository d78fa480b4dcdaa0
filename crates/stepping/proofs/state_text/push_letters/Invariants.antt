use Rattle.std.proofs.Common.{◌≡◌, ◌++◌, drop}
use Rattle.stepping.specs.StateText.{letters}
use Rattle.stepping.proofs.state_text.push_letters.Given as goal

abbrev pub invariant-signals : goal.invariant-signals
invariant-signals l = l.text.items ++ letters l.number (drop l.number l.signals) ≡ l.initial.text.items ++ letters 0 l.signals
