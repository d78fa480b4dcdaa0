use Rattle.std.proofs.Common.{◌≡◌, ◌++◌, drop}
use Rattle.trace_text.specs.Trace.{slices_text}
use Rattle.trace_text.proofs.slices.push_slices.Given as goal

abbrev pub invariant-slices : goal.invariant-slices
invariant-slices l = l.text.items ++ slices_text l.board l.span (drop l.slice-index l.slices) ≡ l.initial.text.items ++ slices_text l.board l.span l.slices
