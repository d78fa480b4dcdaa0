use Rattle.std.proofs.Common.{◌≡◌, drop}
use Rattle.game_session.specs.Faults.{crew_fault}
use Rattle.game_session.specs.Kept.{trees_view}
use Rattle.level_text.proofs.read.first_uncrewed.Given as goal

abbrev pub invariant-trees : goal.invariant-trees
invariant-trees l = crew_fault l.world (trees_view (drop l.i l.trees)) ≡ crew_fault l.world (trees_view l.trees)
