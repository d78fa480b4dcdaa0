-- Where a level's or a script's fault lies and why it is one, as it is written.
use Rattle.std.specs.Prelude.{ℕ, ◌≡◌, ◌++◌, List, [], ◌∷◌, Option, None, Some, IsNone, IsSome, Result, Ok, Err, codes, decimal, string_bytes}
use Rattle.game_rules.specs.declared.change.Change.{Change}
use Rattle.game_session.specs.Parts.{Parts}
use Rattle.game_session.specs.Faults.{Fault}
use Rattle.level_text.specs.Levels.{spelled, fault_view}
use Rattle.level_text.specs.Scripts.{script_of}
use Rattle.level_text.specs.declared.level_fault.LevelFault.{LevelFault}
use Rattle.level_text.specs.declared.script_file.ScriptFault.{ScriptFault}
use Rattle.level_text.specs.declared.script_file.ScriptFault.TheVariants.{OutOfMemory, Line, Order}
use Rattle.fault_reasons.specs.declared.reason.Reason.{Reason}

-- ---- the text

-- nothing where the whole line is meant
abbrev pub column_text : Option ℕ → List ℕ
column_text None = []
column_text (Some column) = codes ":" ++ decimal column

-- nothing of the pointer to the top value, which is empty
abbrev pub pointer_text : List ℕ → List ℕ
pointer_text [] = []
pointer_text (c ∷ cs) = codes " " ++ c ∷ cs

-- the place, and below it the words, which end with no line feed
abbrev pub reason_text : Reason → List ℕ
reason_text r = decimal r.line ++ column_text r.column ++ pointer_text (string_bytes r.pointer) ++ codes "\n" ++ string_bytes r.words

-- ---- of which fault

-- a level's is of a value in it, or of a byte; out of memory has none
abbrev pub IsOfLevel : LevelFault → Reason → Type 0
IsOfLevel fault reason = IsSome (fault_view fault) × IsSome reason.column

-- a script's is of a whole line, that of the fault
abbrev pub IsOfScript : ScriptFault → Reason → Type 0
IsOfScript OutOfMemory reason = ⊥
IsOfScript (Line n) reason = (reason.line ≡ n) × IsNone reason.column
IsOfScript (Order n) reason = (reason.line ≡ n) × IsNone reason.column

abbrev pub IsOfBoth : Result Parts Fault → Result (List Change) ScriptFault → Reason → Type 0
IsOfBoth (Err fault) script reason = IsSome reason.column
IsOfBoth (Ok level) (Err fault) reason = IsOfScript fault reason
IsOfBoth (Ok level) (Ok changes) reason = ⊥

-- of the level's fault, or of the script's where the level has none
abbrev pub IsFirstReason : (level script : List ℕ) → Reason → Type 0
IsFirstReason level script reason = IsOfBoth (spelled level) (script_of script) reason
