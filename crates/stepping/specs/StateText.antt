-- The text of a state: what two machines write of a frame, to see what differs.
use Rattle.std.specs.Prelude.{ℕ, zero, suc, ◌≡◌, ◌≢◌, ◌<◌, ◌+◌, ◌^◌, All, Bool, if◌then◌else◌, List, [], ◌∷◌, ◌++◌, length, Option, Some, None, slice_get, slice_index_or, codes, decimal}
use Rattle.std.specs.List.{flat_map}
use Rattle.byte_streams.specs.Hex.{hex}
use Rattle.grid_world.specs.Grid.{Grid, agent_of, has_item}
use Rattle.grid_world.specs.Map.{count_up}
use Rattle.grid_world.specs.Ground.{emptied}
use Rattle.grid_world.specs.World.{IsWorld, point}
use Rattle.grid_world.specs.declared.cell.Agent.{Agent}
use Rattle.bt_nodes.specs.Limits.{tree_fault}
use Rattle.bt_nodes.specs.declared.node.Status.{Status}
use Rattle.game_rules.specs.declared.change.Change.{Change}
use Rattle.game_rules.specs.Game.{Game, signals}
use Rattle.game_rules.specs.Play.{Position, play}
use Rattle.game_rules.specs.Text.{status_letter}
use Rattle.frame_parts.specs.Memories.{AllFit}
use Rattle.stepping.specs.LevelDigest.{level_digest_of}
use Rattle.stepping.specs.Played.{Played, next_signals, state_of, statuses_at}

-- ---- signals

-- a letter for each signal that is on; they are numbered from a on
abbrev pub letters : ℕ → List Bool → List ℕ
letters a [] = []
letters a (on ∷ more) = (if on then codes " " ++ (97 + a) ∷ [] else []) ++ letters (suc a) more

abbrev pub signals_line : List ℕ → List Bool → List ℕ
signals_line word on = word ++ letters 0 on ++ codes "\n"

-- ---- agents

-- there is no answer before the first frame
abbrev pub answer_text : Option Status → List ℕ
answer_text None = codes "-"
answer_text (Some status) = status_letter status

abbrev pub memory_text : List ℕ → List ℕ
memory_text memory = flat_map (λ n. codes " " ++ decimal n) memory

-- the agent's line of a frame, and the numbers of its memory behind it
abbrev pub agent_line : ℕ → Agent → Option Status → List ℕ → List ℕ
agent_line a agent answer memory =
    (65 + a) ∷ codes " " ++ answer_text answer ++ codes " " ++ decimal agent.x ++ codes "," ++ decimal agent.y
    ++ (if agent.carrying then codes " *" else codes " -") ++ memory_text memory ++ codes "\n"

abbrev pub line_of : Position → List Status → ℕ → List ℕ
line_of at statuses a = agent_line a (agent_of at.world a) (slice_get statuses a) (slice_index_or at.memories a [])

abbrev pub agent_lines : Position → List Status → List ℕ
agent_lines at statuses = flat_map (line_of at statuses) (count_up 0 (length at.world.agents))

-- ---- items

abbrev pub item_line : Grid → ℕ → ℕ → List ℕ
item_line w y x = if has_item w (point x y) then codes "item " ++ decimal x ++ codes "," ++ decimal y ++ codes "\n" else []

-- row after row, from the left
abbrev pub item_lines : Grid → List ℕ
item_lines w = flat_map (λ y. flat_map (item_line w y) (count_up 0 w.width)) (count_up 0 w.height)

-- ---- states

abbrev pub state_head : (digest frame : ℕ) → List ℕ
state_head digest frame = codes "btworld state 1 level " ++ hex 16 digest ++ codes " frame " ++ decimal frame ++ codes "\n"

-- a frame under the signals that are shown, with those of the next
abbrev pub state_text_at : Game → ℕ → (shown next : List Bool) → Position → List Status → List ℕ
state_text_at g f shown next at answers =
    state_head (level_digest_of g) f ++ signals_line (codes "shown") shown ++ signals_line (codes "next") next ++ agent_lines at answers ++ item_lines at.world

abbrev pub state_text : Played → List ℕ
state_text p = state_text_at p.game p.frame (signals p.game.changes p.frame) (next_signals p) p.position p.answers

-- ---- by a script

-- what was handed in for a frame, where a script's signals are handed in frame by frame
abbrev pub handed_in : List Change → ℕ → List Bool
handed_in script zero = signals [] 0
handed_in script (suc f) = signals script (suc f)

-- the state after a frame of the script's game
abbrev pub scripted_state_text : Game → ℕ → List ℕ
scripted_state_text g f = state_text_at g f (handed_in g.changes f) (handed_in g.changes f) (play g f) (statuses_at g f)

-- ---- told apart

-- what each game of a level keeps: the level's ground, an agent for each tree, a memory that fits it, and an answer of each but
-- before the first frame; behind the last frame that is counted no signal changes
pub record IsState (p : Played) : Type 0 where
  pub frame : p.frame < 2 ^ 32
  pub ground : emptied p.game.world ≡ emptied p.position.world
  pub world : IsWorld p.position.world
  pub crew : length p.position.world.agents ≡ length p.game.trees
  pub limits : All (λ t. tree_fault t ≡ None) p.game.trees
  pub memories : AllFit p.game.trees p.position.memories
  pub answered : 0 < p.frame → length p.answers ≡ length p.game.trees
  pub asked : 0 < length p.answers → 0 < p.frame
  pub first : p.frame ≡ 0 → signals p.game.changes p.frame ≡ signals [] 0
  pub last : p.frame + 1 ≡ 2 ^ 32 → next_signals p ≡ signals p.game.changes p.frame

-- but for the names in it
pub record AreOfOneLevel (g h : Game) : Type 0 where
  pub world : g.world ≡ h.world
  pub trees : g.trees ≡ h.trees

-- in the same state, with the same frame shown
pub record AreAlike (p q : Played) : Type 0 where
  pub state : state_of p ≡ state_of q
  pub shown : signals p.game.changes p.frame ≡ signals q.game.changes q.frame
  pub answers : p.answers ≡ q.answers

-- no state of a game's level has this text
abbrev pub IsNoText : Game → List ℕ → Type 0
IsNoText g text = (p : Played) → IsState p → AreOfOneLevel g p.game → state_text p ≢ text
