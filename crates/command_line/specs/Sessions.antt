-- Why a level's and a script's bytes are not taken for a game.
use Rattle.std.specs.Prelude.{ℕ, ◌⊎◌, List}
use Rattle.level_text.specs.Levels.{spelled, IsFaultOf}
use Rattle.level_text.specs.Sessions.{IsFaultOfBoth}
use Rattle.level_text.specs.declared.level_fault.LevelFault.{LevelFault}
use Rattle.level_text.specs.declared.script_file.ScriptFault.{ScriptFault}
use Rattle.level_text.specs.declared.session_fault.SessionFault.TheVariants as faults
use Rattle.command_line.specs.declared.program_fault.Fault.{Fault}
use Rattle.command_line.specs.Faults.{IsOfLevel, IsOfScript}

-- the fault of a level's bytes, or out of memory
abbrev pub IsLevelFault : List ℕ → Fault → Type 0
IsLevelFault level fault = (f : LevelFault) × IsFaultOf (spelled level) f × IsOfLevel f fault

-- the level's fault, else the script's, else out of memory
abbrev pub IsSessionFault : (level script : List ℕ) → Fault → Type 0
IsSessionFault level script fault = IsLevelFault level fault ⊎ ((f : ScriptFault) × IsFaultOfBoth level script (faults.Script f) × IsOfScript f fault)
