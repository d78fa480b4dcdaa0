-- Which fault is the first.
use Rattle.std.proofs.Common.{◌≡◌, ℕ, List, Option, Some, None, Err, refl}
use Rattle.std.specs.Option.{option_or}
use Rattle.game_session.specs.Parts.{Parts}
use Rattle.game_session.specs.Faults.{Fault, row_fault, count_fault, limit_fault, agent_fault, place_fault, crew_fault, world_of, agent_count, no_place, no_agent}
use Rattle.level_text.specs.Levels.{unless_fault, of_parts, fault_view, Names, NamesFirst, IsFaultOf, IsFirstOf}
use Rattle.level_text.specs.declared.level_fault.LevelFault.{LevelFault}

first_named : (n first rest : Option Fault) (parts : Parts) → NamesFirst n first → Names n (unless_fault parts (option_or first rest))
first_named None first rest parts h = tt
first_named (Some fault) first rest parts h = rw h refl

first_of : (first rest : Option Fault) (parts : Parts) (e : LevelFault) → IsFirstOf first e → IsFaultOf (unless_fault parts (option_or first rest)) e
first_of first rest parts e h = first_named (fault_view e) first rest parts h

module _ (parts : Parts) (e : LevelFault) where
  pub at_rows : IsFirstOf (row_fault parts.rows) e → IsFaultOf (of_parts (Some parts)) e
  at_rows h = first_of (row_fault parts.rows) _ parts e h

  pub at_limits : row_fault parts.rows ≡ None → count_fault parts ≡ None → IsFirstOf (limit_fault parts.trees) e → IsFaultOf (of_parts (Some parts)) e
  at_limits rows count h = rw (rows, count) (first_of (limit_fault parts.trees) _ parts e h)

  pub at_agents : row_fault parts.rows ≡ None → count_fault parts ≡ None → limit_fault parts.trees ≡ None → IsFirstOf (agent_fault 0 parts.names parts.trees) e
      → IsFaultOf (of_parts (Some parts)) e
  at_agents rows count limits h = rw (rows, count, limits) (first_of (agent_fault 0 parts.names parts.trees) _ parts e h)

pub at_count : (parts : Parts) → row_fault parts.rows ≡ None → count_fault parts ≡ Some agent_count → of_parts (Some parts) ≡ Err agent_count
at_count parts rows count = rw (rows, count) refl

pub at_places : (parts : Parts) (name : List ℕ) → row_fault parts.rows ≡ None → count_fault parts ≡ None → limit_fault parts.trees ≡ None → agent_fault 0 parts.names parts.trees ≡ None
    → place_fault (world_of parts) parts.trees ≡ Some (no_place name) → of_parts (Some parts) ≡ Err (no_place name)
at_places parts name rows count limits agents places = rw (rows, count, limits, agents, places) refl

pub at_crew : (parts : Parts) (name : List ℕ) → row_fault parts.rows ≡ None → count_fault parts ≡ None → limit_fault parts.trees ≡ None → agent_fault 0 parts.names parts.trees ≡ None
    → place_fault (world_of parts) parts.trees ≡ None → crew_fault (world_of parts) parts.trees ≡ Some (no_agent name) → of_parts (Some parts) ≡ Err (no_agent name)
at_crew parts name rows count limits agents places crew = rw (rows, count, limits, agents, places, crew) refl
