-- The first fault of a level's parts.
use Rattle.std.specs.Prelude.{ℕ, suc, List, [], ◌∷◌, length, map, position, is_some, Bool, ◌==◌, if◌then◌else◌, Option, Some, None, option_map, option_and_then}
use Rattle.std.specs.Option.{option_or}
use Rattle.std.specs.List.{list_all}
use Rattle.std.specs.Str.{bytes_eq, chars}
use Rattle.grid_world.specs.Grid.{Grid}
use Rattle.grid_world.specs.Map.{grid_of}
use Rattle.grid_world.specs.MapFaults.{map_fault}
use Rattle.grid_world.specs.declared.fault.MapFault.{MapFault}
use Rattle.grid_world.specs.declared.fault.MapFault.TheVariants.{OutOfMemory, Size, Char, Letters}
use Rattle.bt_nodes.specs.Limits.{tree_fault}
use Rattle.bt_nodes.specs.declared.tree_fault.TreeFault.{TreeFault}
use Rattle.game_session.specs.Parts.{Parts, NamedPlain}
use Rattle.game_session.specs.Places.{places, has_place}
use Rattle.game_session.specs.Agents.{agents, has_agent}

-- names are the bytes of a text; agents count from 0
pub data Fault : Type 0 where
  json : Fault
  shape : Fault
  map_size : Fault
  map_char : (x y : ℕ) → Fault
  letters : Fault
  agent_count : Fault
  bad_tree : List ℕ → TreeFault → Fault
  no_tree : ℕ → Fault
  no_place : List ℕ → Fault
  no_agent : List ℕ → Fault

-- out of memory is no fault of a level
abbrev pub fault_of_map : MapFault → Option Fault
fault_of_map OutOfMemory = None
fault_of_map Size = Some map_size
fault_of_map (Char x y) = Some (map_char x y)
fault_of_map Letters = Some letters

-- the world of the map's rows, whose characters are those of their texts
abbrev pub world_of : Parts → Grid
world_of parts = grid_of (map chars parts.rows)

abbrev pub is_named : List ℕ → NamedPlain → Bool
is_named name t = bytes_eq t.name name

-- the rows of the map are at fault
abbrev pub row_fault : List (List ℕ) → Option Fault
row_fault rows = option_and_then fault_of_map (map_fault (map chars rows))

-- another number of tree names than of agents on the map
abbrev pub count_fault : Parts → Option Fault
count_fault parts = if length parts.names == length (world_of parts).agents then None else Some agent_count

-- the first tree that breaks a limit, used by an agent or not
abbrev pub limit_fault : List NamedPlain → Option Fault
limit_fault [] = None
limit_fault (t ∷ ts) = option_or (option_map (bad_tree t.name) (tree_fault t.tree)) (limit_fault ts)

-- the first agent, counted from i, whose tree isn't there
abbrev pub agent_fault : ℕ → List (List ℕ) → List NamedPlain → Option Fault
agent_fault i [] trees = None
agent_fault i (name ∷ names) trees = if is_some (position (is_named name) trees) then agent_fault (suc i) names trees else Some (no_tree i)

-- the first tree that names a place that is not on the map, used by an agent or not
abbrev pub place_fault : Grid → List NamedPlain → Option Fault
place_fault g [] = None
place_fault g (t ∷ ts) = if list_all (has_place g) (places t.tree) then place_fault g ts else Some (no_place t.name)

-- the first tree that names an agent that is not on the map, used by an agent or not
abbrev pub crew_fault : Grid → List NamedPlain → Option Fault
crew_fault g [] = None
crew_fault g (t ∷ ts) = if list_all (has_agent g) (agents t.tree) then crew_fault g ts else Some (no_agent t.name)

-- each kind of fault is looked for in the whole file before the next
abbrev pub parts_fault : Parts → Option Fault
parts_fault parts =
    option_or (row_fault parts.rows)
    (option_or (count_fault parts)
    (option_or (limit_fault parts.trees)
    (option_or (agent_fault 0 parts.names parts.trees)
    (option_or (place_fault (world_of parts) parts.trees)
    (crew_fault (world_of parts) parts.trees)))))
