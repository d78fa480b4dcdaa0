use Rattle.std.proofs.Common.{◌≡◌, ◌++◌, drop}
use Rattle.trace_text.specs.Slices.{slices_from}
use Rattle.page_text.specs.Slices.{lines_from, slices_text}
use Rattle.page_text.proofs.slices.slices_text.Given as goal

abbrev pub invariant-events : goal.invariant-events
invariant-events l = l.text.items ++ lines_from l.fn.span l.last (slices_from l.at (drop l.at l.events)) ≡ slices_text l.fn.span l.events
