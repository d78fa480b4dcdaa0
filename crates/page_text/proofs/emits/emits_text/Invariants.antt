use Rattle.std.proofs.Common.{◌≡◌, ◌++◌, drop}
use Rattle.page_text.specs.Emits.{emits_from, emits_text}
use Rattle.page_text.proofs.emits.emits_text.Given as goal

abbrev pub invariant-events : goal.invariant-events
invariant-events l = l.text.items ++ emits_from l.at (drop l.at l.events) ≡ emits_text l.events
