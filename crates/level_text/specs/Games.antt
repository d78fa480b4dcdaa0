-- The game that a level's and a script's bytes spell.
use Rattle.std.specs.Prelude.{ℕ, List, Option, Some, None, Result, Ok, Err}
use Rattle.game_rules.specs.declared.change.Change.{Change}
use Rattle.game_rules.specs.Game.{Game}
use Rattle.game_session.specs.Parts.{Parts}
use Rattle.game_session.specs.Faults.{Fault}
use Rattle.game_session.specs.Sessions.{game_of}
use Rattle.level_text.specs.Levels.{spelled}
use Rattle.level_text.specs.Scripts.{script_of}
use Rattle.level_text.specs.declared.script_file.ScriptFault.{ScriptFault}

abbrev pub of_both : Result Parts Fault → Result (List Change) ScriptFault → Option Game
of_both (Ok level) (Ok changes) = Some (game_of level changes)
of_both (Ok level) (Err fault) = None
of_both (Err fault) script = None

-- none where either has a fault
abbrev pub spelled_game : (level script : List ℕ) → Option Game
spelled_game level script = of_both (spelled level) (script_of script)
