-- The statuses that calls answer, by their numbers in btworld.h.
use Rattle.std.specs.Prelude.{ℕ, ◌≡◌, ◌≢◌, ◌⊎◌, List, Option, Some, None, Result, Ok, Err}
use Rattle.game_rules.specs.declared.change.Change.{Change}
use Rattle.game_session.specs.Parts.{Parts}
use Rattle.game_session.specs.Faults.{Fault, json, shape, map_size, map_char, letters, agent_count, bad_tree, no_tree, no_place, no_agent}
use Rattle.level_text.specs.Levels.{spelled}
use Rattle.level_text.specs.Scripts.{script_of}
use Rattle.level_text.specs.declared.script_file.ScriptFault.{ScriptFault}
use Rattle.level_text.specs.declared.script_file.ScriptFault.TheVariants.{OutOfMemory, Line, Order}
use Rattle.log_text.specs.declared.log_fault.LogFault.{LogFault}
use Rattle.log_text.specs.declared.log_fault.LogFault.TheVariants as logs
use Rattle.stepping.specs.declared.load_fault.LoadFault.{LoadFault}
use Rattle.stepping.specs.declared.load_fault.LoadFault.TheVariants as loads

-- ---- any call

abbrev pub done : ℕ
done = 0

abbrev pub no_memory : ℕ
no_memory = 1

-- the handle holds no game
abbrev pub closed : ℕ
closed = 2

-- the handle holds a game already
abbrev pub taken : ℕ
taken = 3

-- no frame was stepped yet
abbrev pub no_frame : ℕ
no_frame = 4

-- the buffer is too short
abbrev pub short : ℕ
short = 5

abbrev pub beyond_agents : ℕ
beyond_agents = 6

-- no frame has a higher number
abbrev pub last_frame : ℕ
last_frame = 7

-- there is no such cell
abbrev pub off_map : ℕ
off_map = 8

-- a signal changes in a frame behind all that a script can name
abbrev pub long : ℕ
long = 9

-- the map has no such place
abbrev pub beyond_places : ℕ
beyond_places = 10

-- ---- what a call on a handle may answer

abbrev pub IsStepStatus : ℕ → Type 0
IsStepStatus status = (status ≡ done) ⊎ ((status ≡ no_memory) ⊎ ((status ≡ closed) ⊎ (status ≡ last_frame)))

abbrev pub IsTextStatus : ℕ → Type 0
IsTextStatus status = (status ≡ done) ⊎ ((status ≡ closed) ⊎ ((status ≡ no_frame) ⊎ ((status ≡ no_memory) ⊎ (status ≡ short))))

abbrev pub IsAgentStatus : ℕ → Type 0
IsAgentStatus status = (status ≡ done) ⊎ ((status ≡ closed) ⊎ ((status ≡ no_frame) ⊎ (status ≡ beyond_agents)))

abbrev pub IsLookStatus : ℕ → Type 0
IsLookStatus status = (status ≡ done) ⊎ ((status ≡ closed) ⊎ (status ≡ short))

abbrev pub IsStateStatus : ℕ → Type 0
IsStateStatus status = (status ≡ done) ⊎ ((status ≡ closed) ⊎ ((status ≡ no_memory) ⊎ (status ≡ short)))

abbrev pub IsCellStatus : ℕ → Type 0
IsCellStatus status = (status ≡ done) ⊎ ((status ≡ closed) ⊎ (status ≡ off_map))

abbrev pub IsSignalsStatus : ℕ → Type 0
IsSignalsStatus status = (status ≡ done) ⊎ ((status ≡ closed) ⊎ (status ≡ last_frame))

abbrev pub IsMemoryStatus : ℕ → Type 0
IsMemoryStatus status = (status ≡ done) ⊎ ((status ≡ closed) ⊎ ((status ≡ beyond_agents) ⊎ ((status ≡ no_memory) ⊎ (status ≡ short))))

abbrev pub IsTickStatus : ℕ → Type 0
IsTickStatus status = (status ≡ last_frame) ⊎ IsMemoryStatus status

abbrev pub IsWayStatus : ℕ → Type 0
IsWayStatus status = (status ≡ done) ⊎ ((status ≡ closed) ⊎ ((status ≡ beyond_agents) ⊎ ((status ≡ beyond_places) ⊎ (status ≡ no_memory))))

abbrev pub IsIntentStatus : ℕ → Type 0
IsIntentStatus status = (status ≡ done) ⊎ ((status ≡ closed) ⊎ ((status ≡ beyond_agents) ⊎ ((status ≡ last_frame) ⊎ (status ≡ no_memory))))

abbrev pub IsScriptStatus : ℕ → Type 0
IsScriptStatus status = (status ≡ done) ⊎ ((status ≡ closed) ⊎ ((status ≡ long) ⊎ ((status ≡ no_memory) ⊎ (status ≡ short))))

-- ---- levels

abbrev pub level_status : Fault → ℕ
level_status json = 16
level_status shape = 17
level_status map_size = 18
level_status (map_char x y) = 19
level_status letters = 20
level_status agent_count = 21
level_status (bad_tree name fault) = 22
level_status (no_tree agent) = 23
level_status (no_place name) = 24
level_status (no_agent name) = 25

-- none when out of memory
abbrev pub fault_status : Option Fault → ℕ
fault_status None = no_memory
fault_status (Some fault) = level_status fault

abbrev pub spelled_status : Result Parts Fault → ℕ
spelled_status (Ok level) = done
spelled_status (Err fault) = level_status fault

-- out of memory, or what bytes come to as a level
abbrev pub IsLevelStatus : List ℕ → ℕ → Type 0
IsLevelStatus bytes status = (status ≡ no_memory) ⊎ (status ≡ spelled_status (spelled bytes))

-- ---- scripts and logs

abbrev pub script_status : ScriptFault → ℕ
script_status OutOfMemory = no_memory
script_status (Line n) = 32
script_status (Order n) = 33

-- what bytes come to as a level and a script; a level's fault comes first
abbrev pub session_status : Result Parts Fault → Result (List Change) ScriptFault → ℕ
session_status (Err fault) script = level_status fault
session_status (Ok level) (Err fault) = script_status fault
session_status (Ok level) (Ok changes) = done

-- out of memory, or what bytes come to as a level and a script
abbrev pub IsSessionStatus : (level script : List ℕ) → ℕ → Type 0
IsSessionStatus level script status = (status ≡ no_memory) ⊎ (status ≡ session_status (spelled level) (script_of script))

abbrev pub log_status : LogFault → ℕ
log_status logs.OutOfMemory = no_memory
log_status logs.Head = 48
log_status (logs.Line n) = 49

abbrev pub illegal_event : ℕ
illegal_event = 50

-- a log shows fewer frames than it is of
abbrev pub incomplete : ℕ
incomplete = 51

-- a log ends with a stop
abbrev pub stopped : ℕ
stopped = 52

-- it says why nothing was written
abbrev pub IsRefusal : ℕ → Type 0
IsRefusal status = (status ≢ done) × (status ≢ short) × (status ≢ incomplete)

-- ---- states

abbrev pub load_status : LoadFault → ℕ
load_status loads.OutOfMemory = no_memory
load_status loads.Text = 64
load_status loads.Level = 65
load_status loads.World = 66

-- why a text is not loaded, unless out of memory
abbrev pub IsStateFault : ℕ → Type 0
IsStateFault status = (status ≡ 64) ⊎ ((status ≡ 65) ⊎ (status ≡ 66))
