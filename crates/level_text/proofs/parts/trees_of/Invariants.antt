use Rattle.std.proofs.Common.{◌≡◌, ◌++◌, map, option_map}
use Rattle.serde_json.specs.View.{members_view}
use Rattle.level_text.specs.Parts.{trees_in}
use Rattle.level_text.specs.Drafts.{node_view}
use Rattle.level_text.proofs.parts.trees_of.Given as goal

abbrev pub invariant-members : goal.invariant-members
invariant-members l =
    (goal.iterator-members).can_next l.key-iterator
    × (goal.iterator-members).is_finite l.key-iterator
    × (option_map (λ ts. map node_view l.trees.items ++ ts) (trees_in (members_view l.key-iterator)) ≡ trees_in (members_view l.initial.key-iterator))
