-- A game that a level and a script spell can be played.
use Rattle.std.proofs.Common.{◌≡◌, ◌∙◌, ◌==◌, ℕ, Bool, true, false, if◌then◌else◌, List, Option, Some, None, refl, sym, subst, map, length, eqb-true}
use Rattle.std.specs.Prelude.{Result, Ok, Err, option_and_then}
use Rattle.std.specs.Str.{chars}
use Rattle.std.proofs.Math.Nat.{mul_comm}
use Rattle.std.proofs.lemmas.List.{length-map}
use Rattle.grid_world.specs.Map.{cell_of, grid_of, marks_of, width_of}
use Rattle.grid_world.specs.MapFaults.{first_of, has_size}
use Rattle.grid_world.specs.World.{IsSized}
use Rattle.grid_world.specs.declared.fault.MapFault.{MapFault}
use Rattle.grid_world.specs.declared.fault.MapFault.TheVariants.{Size}
use Rattle.grid_world.proofs.Lined.{cells-placed}
use Rattle.grid_world.proofs.Rows.{IsRectangle, IsRectangle-from_size}
use Rattle.game_rules.specs.declared.change.Change.{Change}
use Rattle.game_rules.specs.Game.{Game}
use Rattle.game_session.specs.Parts.{Parts}
use Rattle.game_session.specs.Faults.{Fault, fault_of_map, parts_fault, world_of}
use Rattle.game_session.specs.Levels.{tree_named}
use Rattle.game_session.specs.Sessions.{game_of}
use Rattle.game_session.proofs.Faultless.{faultless, passes}
use Rattle.serde_json.specs.Data.{Data}
use Rattle.level_text.specs.Levels.{json_of, of_json, of_parts, spelled, unless_fault}
use Rattle.level_text.specs.Parts.{parts_of}
use Rattle.level_text.specs.Scripts.{script_of}
use Rattle.level_text.specs.declared.script_file.ScriptFault.{ScriptFault}
use Rattle.page_text.specs.Frames.{IsPlayable}
use Rattle.level_text.specs.Games.{of_both, spelled_game}

-- ---- a level's parts have no fault

from_unless : (p : Parts) (f : Option Fault) (parts : Parts) → unless_fault p f ≡ Ok parts → (p ≡ parts) × (f ≡ None)
from_unless p None parts e = (cc, refl)
from_unless p (Some fault) parts e = (cc, cc)

from_parts : (found : Option Parts) (parts : Parts) → of_parts found ≡ Ok parts → parts_fault parts ≡ None
from_parts None parts e = cc
from_parts (Some p) parts e = let h = from_unless p (parts_fault p) parts e in subst (λ q. parts_fault q ≡ None) h.0 h.1

-- ---- what that says

has_rows : (sized : Bool) (later : Option MapFault) → option_and_then fault_of_map (first_of (if sized then None else Some Size) later) ≡ None → sized ≡ true
has_rows true later e = refl
has_rows false later e = cc

map_sized : (rows : List (List ℕ)) → IsRectangle rows → IsSized (grid_of rows)
map_sized rows is = record {
  some_columns = is.some_columns;
  most_columns = is.most_columns;
  some_rows = is.some_rows;
  most_rows = is.most_rows;
  all_cells = length-map (marks_of rows) cell_of ∙ is.all_marks ∙ mul_comm (length rows) (width_of rows);
}

playable_parts : (parts : Parts) (changes : List Change) → parts_fault parts ≡ None → IsPlayable (game_of parts changes)
playable_parts parts changes none =
    let is = faultless parts none in
    let rows = map chars parts.rows in
    let sized : has_size rows ≡ true = has_rows (has_size rows) _ is.rows in
    let count : (length parts.names == length (world_of parts).agents) ≡ true = (passes _ _ _ is.count).0 in
    record {
      sized = map_sized rows (IsRectangle-from_size rows sized);
      trees = sym (eqb-true (length parts.names) (length (world_of parts).agents) count) ∙ sym (length-map parts.names (tree_named parts.trees));
      placed = cells-placed (marks_of rows);
    }

-- ---- the game of both

module _ (g : Game) where
  from_both : (level : Result Parts Fault) (script : Result (List Change) ScriptFault) → ((parts : Parts) → level ≡ Ok parts → parts_fault parts ≡ None)
      → of_both level script ≡ Some g → IsPlayable g
  from_both (Ok parts) (Ok changes) none e = let same : game_of parts changes ≡ g = cc in subst IsPlayable same (playable_parts parts changes (none parts refl))
  from_both (Ok parts) (Err fault) none e = cc
  from_both (Err fault) script none e = cc

from_json : (found : Option Data) (parts : Parts) → of_json found ≡ Ok parts → parts_fault parts ≡ None
from_json None parts e = cc
from_json (Some d) parts e = from_parts (parts_of d) parts e

pub playable : (level script : List ℕ) (g : Game) → spelled_game level script ≡ Some g → IsPlayable g
playable level script g e = from_both g (spelled level) (script_of script) (λ parts same. from_json (json_of level) parts same) e
