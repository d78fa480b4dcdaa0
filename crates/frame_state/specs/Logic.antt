-- What a frame's logic has when all agents have thought, and what comes of its work.
use Rattle.std.specs.Prelude.{ℕ, ◌≡◌, ◌<◌, true, false, List, [], length, slice_index_or, vec_capacity, ◌≤◌}
use Rattle.grid_world.specs.declared.cell.Intent.{Intent}
use Rattle.bt_nodes.specs.declared.node.Status.{Status}
use Rattle.bt_nodes.specs.Bounds.{Fits}
use Rattle.game_jobs.specs.Instance.{tree_of}
use Rattle.frame_parts.specs.Distances.{DistancesOf, AllOn, AllUnder}
use Rattle.frame_parts.specs.Memories.{AllFit}
use Rattle.frame_state.specs.Names.{FrameOf, PartOf, LogicOf, frame_of}
use Rattle.frame_state.specs.declared.gathering.Gathering.{Gathering}
use Rattle.frame_state.specs.Contents.{memories_after, intents_in, statuses_in, signals_in}
use Rattle.frame_state.specs.declared.logic_step.LogicStep.{LogicStep}
use Rattle.frame_state.specs.declared.logic_step.LogicStep.TheVariants.{Begins, Turned}

-- what all agents want to do and come to in a frame, and distances on the game's ground
pub record AreGathered (p : FrameOf) (intents : List Intent) (statuses : List Status) (memories : List (List ℕ)) (found : List DistancesOf) : Type 0 where
  pub intents_are : intents ≡ intents_in p.game p.frame
  pub statuses_are : statuses ≡ statuses_in p.game p.frame
  pub memories_are : 0 < p.frame → memories ≡ memories_after p.game p.frame
  pub fit : AllFit p.game.trees memories
  pub found_are : AllOn p.game.world found

-- empty room for the thoughts of a frame's agents, with distances that hold in the frame
abbrev pub IsRoomIn : FrameOf → Gathering → Type 0
IsRoomIn p room = (room.thoughts.items ≡ []) × (length p.game.trees ≤ vec_capacity room.thoughts) × AllUnder p.game.world (signals_in p.game p.frame) room.found.items

-- each memory fits the tree of the thought at its place
abbrev pub AllFitOwn : List PartOf → List (List ℕ) → Type 0
AllFitOwn parts memories =
    (k : ℕ) (d : PartOf) → k < length parts
    → let p : PartOf = slice_index_or parts k d in Fits (tree_of p.game p.number) (slice_index_or memories k [])

-- it begins exactly where it has not spread, and else it comes to the turn of its frame
abbrev pub IsLogicStep : LogicOf → LogicStep → Type 0
IsLogicStep l Begins = l.has_spread ≡ false
IsLogicStep l (Turned turn) = (l.has_spread ≡ true) × (turn ≡ frame_of l.game l.frame)
