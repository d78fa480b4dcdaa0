-- Why a level's and a script's bytes spell no game.
use Rattle.std.specs.Prelude.{ℕ, ◌≡◌, ◌⊎◌, List, Err, MatchResult}
use Rattle.level_text.specs.Levels.{spelled, IsFaultOf}
use Rattle.level_text.specs.Scripts.{script_of}
use Rattle.level_text.specs.declared.script_file.ScriptFault.TheVariants.{OutOfMemory}
use Rattle.level_text.specs.declared.session_fault.SessionFault.{SessionFault}
use Rattle.level_text.specs.declared.session_fault.SessionFault.TheVariants.{Level, Script}

-- the level's fault, or the script's where the level has none
abbrev pub IsFaultOfBoth : (level script : List ℕ) → SessionFault → Type 0
IsFaultOfBoth level script (Level fault) = IsFaultOf (spelled level) fault
IsFaultOfBoth level script (Script fault) = MatchResult (spelled level) (λ _. (fault ≡ OutOfMemory) ⊎ (script_of script ≡ Err fault)) (λ _. ⊥)
