-- The level that bytes spell, and their first fault.
use Rattle.std.specs.Prelude.{ℕ, List, if◌then◌else◌, Option, Some, None, Result, Ok, Err, string_bytes, ◌≡◌}
use Rattle.std.specs.Str.{is_utf8}
use Rattle.serde_json.specs.Data.{Data}
use Rattle.serde_json.specs.Read.{read}
use Rattle.game_session.specs.Parts.{Parts}
use Rattle.game_session.specs.Faults.{parts_fault, Fault, json, shape, map_size, map_char, letters, agent_count, bad_tree, no_tree, no_place, no_agent}
use Rattle.level_text.specs.Parts.{parts_of}
use Rattle.level_text.specs.declared.level_fault.LevelFault.{LevelFault}
use Rattle.level_text.specs.declared.level_fault.LevelFault.TheVariants.{OutOfMemory, Json, Shape, MapSize, MapChar, Letters, AgentCount, BadTree, NoTree, NoPlace, NoAgent}

-- ---- what is spelled

abbrev pub unless_fault : Parts → Option Fault → Result Parts Fault
unless_fault parts None = Ok parts
unless_fault parts (Some fault) = Err fault

-- a level is its parts, where they have no fault
abbrev pub of_parts : Option Parts → Result Parts Fault
of_parts None = Err shape
of_parts (Some parts) = unless_fault parts (parts_fault parts)

-- the level that a JSON value spells, or its first fault
abbrev pub level_of : Data → Result Parts Fault
level_of d = of_parts (parts_of d)

-- the JSON value that bytes are, where `serde_json` has a reading
abbrev pub json_of : List ℕ → Option Data
json_of bytes = if is_utf8 bytes then read bytes else None

abbrev pub of_json : Option Data → Result Parts Fault
of_json None = Err json
of_json (Some d) = level_of d

-- the level that bytes spell, or their first fault
abbrev pub spelled : List ℕ → Result Parts Fault
spelled bytes = of_json (json_of bytes)

-- ---- faults

-- the fault that an answer names; none when out of memory
abbrev pub fault_view : LevelFault → Option Fault
fault_view OutOfMemory = None
fault_view Json = Some json
fault_view Shape = Some shape
fault_view MapSize = Some map_size
fault_view (MapChar x y) = Some (map_char x y)
fault_view Letters = Some letters
fault_view AgentCount = Some agent_count
fault_view (BadTree name fault) = Some (bad_tree (string_bytes name) fault)
fault_view (NoTree agent) = Some (no_tree agent)
fault_view (NoPlace name) = Some (no_place (string_bytes name))
fault_view (NoAgent name) = Some (no_agent (string_bytes name))

abbrev pub Names : {V : Type 0} → Option Fault → Result V Fault → Type 0
Names None right = Unit {0}
Names (Some fault) right = right ≡ Err fault

-- out of memory, or the right fault
abbrev pub IsFaultOf : {V : Type 0} → Result V Fault → LevelFault → Type 0
IsFaultOf right e = Names (fault_view e) right

abbrev pub NamesFirst : Option Fault → Option Fault → Type 0
NamesFirst None first = Unit {0}
NamesFirst (Some fault) first = first ≡ Some fault

-- out of memory, or the first fault of some kinds
abbrev pub IsFirstOf : Option Fault → LevelFault → Type 0
IsFirstOf first e = NamesFirst (fault_view e) first
