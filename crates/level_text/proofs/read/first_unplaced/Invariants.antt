use Rattle.std.proofs.Common.{◌≡◌, drop}
use Rattle.game_session.specs.Faults.{place_fault}
use Rattle.game_session.specs.Kept.{trees_view}
use Rattle.level_text.proofs.read.first_unplaced.Given as goal

abbrev pub invariant-trees : goal.invariant-trees
invariant-trees l = place_fault l.world (trees_view (drop l.i l.trees)) ≡ place_fault l.world (trees_view l.trees)
