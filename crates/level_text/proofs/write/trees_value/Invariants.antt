use Rattle.std.proofs.Common.{◌≡◌, take, drop}
use Rattle.std.specs.List.{list_all}
use Rattle.serde_json.specs.View.{members_view}
use Rattle.game_session.specs.Kept.{trees_view}
use Rattle.level_text.specs.Marks.{has_marks}
use Rattle.level_text.specs.Written.{trees_data}
use Rattle.level_text.proofs.write.trees_value.Given as goal

abbrev pub invariant-trees : goal.invariant-trees
invariant-trees l =
    (members_view l.members.entries ≡ trees_data (trees_view (take l.named-index l.trees)))
    × (list_all (λ t. has_marks t.tree) (trees_view (drop l.named-index l.trees)) ≡ list_all (λ t. has_marks t.tree) (trees_view l.trees))
