use Rattle.std.proofs.Common.{◌≡◌, ◌++◌, map, drop}
use Rattle.game_session.specs.Faults.{agent_fault}
use Rattle.game_session.specs.Kept.{trees_view, texts_view, index_of}
use Rattle.level_text.proofs.read.picks_of.Given as goal

abbrev pub invariant-names : goal.invariant-names
invariant-names l =
    (agent_fault l.agent (texts_view (drop l.agent l.names)) (trees_view l.trees) ≡ agent_fault 0 (texts_view l.names) (trees_view l.trees))
    × (l.picks.items ++ map (index_of (trees_view l.trees)) (texts_view (drop l.agent l.names)) ≡ map (index_of (trees_view l.trees)) (texts_view l.names))
