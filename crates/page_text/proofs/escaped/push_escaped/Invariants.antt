use Rattle.std.proofs.Common.{◌≡◌, ◌++◌, drop}
use Rattle.page_text.specs.Escapes.{escaped}
use Rattle.page_text.proofs.escaped.push_escaped.Given as goal

abbrev pub invariant-bytes : goal.invariant-bytes
invariant-bytes l = l.page.items ++ escaped (drop l.byte-index l.text) ≡ l.initial.page.items ++ escaped l.text
