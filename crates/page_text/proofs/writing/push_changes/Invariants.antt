use Rattle.std.proofs.Common.{◌≡◌, ◌≤◌, ◌-◌, ◌++◌, drop, length}
use Rattle.page_text.specs.Changes.{changes_from, changes_text}
use Rattle.page_text.proofs.writing.push_changes.Given as goal

abbrev pub invariant-pieces : goal.invariant-pieces
invariant-pieces l =
    (l.text.items ++ changes_text (changes_from l.place (drop l.place l.old) (drop l.place l.new)) ≡ l.initial.text.items ++ changes_text (changes_from 0 l.old l.new))
    × (l.place ≤ length l.new)

abbrev pub decreases-pieces : goal.decreases-pieces
decreases-pieces l = length l.new - l.place
