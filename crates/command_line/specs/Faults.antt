-- Which fault a program reports, and the status with which it ends.
use Rattle.std.specs.Prelude.{⊤, ℕ, ◌≡◌, ◌<◌, ◌+◌, ◌⊎◌, List, Result, Ok, Err, codes, string_bytes}
use Rattle.bt_nodes.specs.declared.tree_fault.TreeFault.{TreeFault}
use Rattle.bt_nodes.specs.declared.tree_fault.TreeFault.TheVariants as trees
use Rattle.level_text.specs.declared.level_fault.LevelFault.{LevelFault}
use Rattle.level_text.specs.declared.level_fault.LevelFault.TheVariants as levels
use Rattle.level_text.specs.declared.script_file.ScriptFault.{ScriptFault}
use Rattle.level_text.specs.declared.script_file.ScriptFault.TheVariants as scripts
use Rattle.log_text.specs.declared.log_fault.LogFault.{LogFault}
use Rattle.log_text.specs.declared.log_fault.LogFault.TheVariants as logs
use Rattle.log_text.specs.Readings.{IsFirstFault}
use Rattle.command_line.specs.declared.words_fault.WordsFault.{WordsFault}
use Rattle.command_line.specs.declared.words_fault.WordsFault.TheVariants.{Refused}
use Rattle.command_line.specs.declared.program_fault.Fault.{Fault}
use Rattle.command_line.specs.declared.program_fault.Fault.TheVariants.{File, StandardInput, SameFile, Json, Shape, MapSize, MapChar, Letters, AgentCount, BadTree, NoTree, NoPlace, NoAgent, ScriptLine, ScriptOrder, LogHead, LogLine, Write, Spawn, GateClosed, Stranger, OutOfMemory}

-- a file or a write failed; refused words or files; out of memory, or the run failed otherwise
abbrev pub status_of : Fault → ℕ
status_of (File path) = 1
status_of StandardInput = 1
status_of Write = 1
status_of Spawn = 3
status_of GateClosed = 3
status_of Stranger = 3
status_of OutOfMemory = 3
status_of _ = 2

abbrev pub status_in : Result (⊤) Fault → ℕ
status_in (Ok _) = 0
status_in (Err fault) = status_of fault

abbrev pub IsRefusal : WordsFault → Type 0
IsRefusal (Refused text) = Unit {0}
IsRefusal _ = ⊥

-- the limit that a tree breaks
abbrev pub limit_words : TreeFault → List ℕ
limit_words trees.TooManyNodes = codes "too many nodes"
limit_words trees.TooDeep = codes "too deep"
limit_words trees.NoChild = codes "no child"
limit_words trees.Threshold = codes "threshold"
limit_words trees.Count = codes "count"

-- each fault of a level has its own report
abbrev pub IsOfLevel : LevelFault → Fault → Type 0
IsOfLevel levels.OutOfMemory fault = fault ≡ OutOfMemory
IsOfLevel levels.Json fault = fault ≡ Json
IsOfLevel levels.Shape fault = fault ≡ Shape
IsOfLevel levels.MapSize fault = fault ≡ MapSize
IsOfLevel (levels.MapChar x y) fault = fault ≡ MapChar x y
IsOfLevel levels.Letters fault = fault ≡ Letters
IsOfLevel levels.AgentCount fault = fault ≡ AgentCount
IsOfLevel (levels.BadTree name why) (BadTree n limit) = (n ≡ name) × (limit.now ≡ limit_words why)
IsOfLevel (levels.BadTree name why) _ = ⊥
IsOfLevel (levels.NoTree agent) (NoTree letter) = agent < 26 → letter ≡ agent + 65
IsOfLevel (levels.NoTree agent) _ = ⊥
IsOfLevel (levels.NoPlace name) fault = fault ≡ NoPlace name
IsOfLevel (levels.NoAgent name) fault = fault ≡ NoAgent name

abbrev pub IsOfScript : ScriptFault → Fault → Type 0
IsOfScript scripts.OutOfMemory fault = fault ≡ OutOfMemory
IsOfScript (scripts.Line n) fault = fault ≡ ScriptLine n
IsOfScript (scripts.Order n) fault = fault ≡ ScriptOrder n

abbrev pub IsOfLog : LogFault → Fault → Type 0
IsOfLog logs.OutOfMemory fault = fault ≡ OutOfMemory
IsOfLog logs.Head fault = fault ≡ LogHead
IsOfLog (logs.Line n) fault = fault ≡ LogLine n

-- the bytes are no log
abbrev pub IsReadingFault : List ℕ → Fault → Type 0
IsReadingFault log fault = (f : LogFault) × ((f ≡ logs.OutOfMemory) ⊎ IsFirstFault log f) × IsOfLog f fault

-- an output that is an input is reported by both paths
abbrev pub IsSameFileFault : (output input : List ℕ) → Fault → Type 0
IsSameFileFault output input OutOfMemory = Unit {0}
IsSameFileFault output input (SameFile out into) = (string_bytes out ≡ output) × (string_bytes into ≡ input)
IsSameFileFault output input _ = ⊥

-- a file that can't be had is reported by its path
abbrev pub IsFileFault : List ℕ → Fault → Type 0
IsFileFault path OutOfMemory = Unit {0}
IsFileFault path (File name) = string_bytes name ≡ path
IsFileFault path _ = ⊥
