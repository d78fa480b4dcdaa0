-- The game that a level and a script stand for.
use Rattle.std.specs.Prelude.{List}
use Rattle.game_rules.specs.declared.change.Change.{Change}
use Rattle.game_rules.specs.Game.{Game}
use Rattle.game_session.specs.Parts.{Parts}
use Rattle.game_session.specs.Faults.{world_of}
use Rattle.game_session.specs.Levels.{agent_trees}

abbrev pub game_of : Parts → List Change → Game
game_of level changes = record { world = world_of level; trees = agent_trees level; changes = changes }
