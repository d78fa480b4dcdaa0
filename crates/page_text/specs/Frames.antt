-- The frames of a game, by their rows and their agents' lines.
use Rattle.std.specs.Prelude.{ℕ, zero, suc, ◌≡◌, ◌+◌, ◌*◌, List, [], ◌∷◌, ◌++◌, All, length, map, codes, decimal}
use Rattle.std.specs.List.{flat_map}
use Rattle.grid_world.specs.Map.{count_up}
use Rattle.grid_world.specs.Rows.{IsPlaced}
use Rattle.grid_world.specs.World.{IsSized}
use Rattle.game_rules.specs.Game.{Game, signals}
use Rattle.game_rules.specs.Play.{play, thoughts}
use Rattle.game_rules.specs.Text.{agents_text, row_text}
use Rattle.page_text.specs.Films.{Frame, as_frame}

-- the rows of a frame, drawn from the world after it
abbrev pub rows_at : Game → ℕ → List ℕ
rows_at g f = flat_map (row_text (play g f).world (signals g.changes f)) (count_up 0 (play g f).world.height)

abbrev pub lines_at : Game → ℕ → List ℕ
lines_at g zero = []
lines_at g (suc f) = agents_text 0 (play g (suc f)).world.agents (map (λ t. t.status) (thoughts g (suc f) (play g f)))

abbrev pub frame_at : Game → ℕ → Frame
frame_at g f = as_frame (rows_at g f) (lines_at g f)

-- the frames 1 to n
abbrev pub frames_to : Game → ℕ → List Frame
frames_to g zero = []
frames_to g (suc n) = frames_to g n ++ frame_at g (suc n) ∷ []

-- the rows of the last of some frames that come behind others
abbrev pub last_rows : List ℕ → List Frame → List ℕ
last_rows old [] = old
last_rows old (frame ∷ frames) = last_rows frame.rows frames

-- ---- their text

-- of a frame with this number
abbrev pub told : ℕ → Frame → List ℕ
told f frame = codes "frame " ++ decimal f ++ codes "\n" ++ frame.rows ++ frame.lines

-- of frames, the first of which has this number
abbrev pub texts_from : ℕ → List Frame → List ℕ
texts_from f [] = []
texts_from f (frame ∷ frames) = told f frame ++ texts_from (suc f) frames

-- ---- games that can be played

-- how many bytes the rows of a frame have, line feeds among them
abbrev pub size_of : Game → ℕ
size_of g = g.world.height * (g.world.width + 1)

-- the map has a size in its limits, each agent has a tree, and places are digits
pub record IsPlayable (g : Game) : Type 0 where
  pub sized : IsSized g.world
  pub trees : length g.world.agents ≡ length g.trees
  pub placed : All IsPlaced g.world.cells
