use Rattle.std.proofs.Common.{◌≡◌, ◌+◌, ◌++◌, drop}
use Rattle.page_text.specs.Changes.{changes_from, changes_text}
use Rattle.page_text.proofs.writing.push_piece.Given as goal

abbrev pub invariant-bytes : goal.invariant-bytes
invariant-bytes l =
    l.text.items ++ changes_text (changes_from (l.at + l.index) (drop l.index l.old) (drop l.index l.new))
    ≡ l.initial.text.items ++ changes_text (changes_from l.at l.old l.new)
