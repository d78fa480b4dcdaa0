-- What stands in the parts of a frame: the game's values for their names.
use Rattle.std.specs.Prelude.{ℕ, ◌≡◌, ◌<◌, ◌-◌, Bool, List, [], Option, map, length, slice_index_or}
use Rattle.grid_world.specs.Grid.{Grid}
use Rattle.grid_world.specs.Way.{way}
use Rattle.grid_world.specs.declared.cell.Answer.{Answer}
use Rattle.grid_world.specs.declared.cell.Intent.{Intent}
use Rattle.bt_nodes.specs.declared.node.Status.{Status}
use Rattle.bt_nodes.specs.Plain.{Plain}
use Rattle.game_rules.specs.Game.{Game, signals}
use Rattle.game_rules.specs.View.{View, cell_of}
use Rattle.game_rules.specs.Thought.{Thought, ticked, thought, questions, ways, next_answer, last_of}
use Rattle.game_rules.specs.Play.{play, thoughts}
use Rattle.game_jobs.specs.Instance.{tree_of, view}
use Rattle.draw_list.specs.declared.band.Band.{Band}
use Rattle.draw_list.specs.Bands.{band_count, band_of}
use Rattle.frame_parts.specs.Memories.{AllFit}
use Rattle.frame_state.specs.Names.{PartOf}

-- ---- frames

abbrev pub signals_in : Game → ℕ → List Bool
signals_in g f = signals g.changes f

unfoldable pub world_after : Game → ℕ → Grid
world_after g f = (play g f).world

unfoldable pub memories_after : Game → ℕ → List (List ℕ)
memories_after g f = (play g f).memories

-- the answers and the intents of all agents, by agent number
unfoldable pub statuses_in : Game → ℕ → List Status
statuses_in g f = map (λ t. t.status) (thoughts g f (play g (f - 1)))

unfoldable pub intents_in : Game → ℕ → List Intent
intents_in g f = map (λ t. t.intent) (thoughts g f (play g (f - 1)))

-- ---- bands

abbrev pub bands_in : Game → ℕ
bands_in g = band_count g.world.height

abbrev pub band_in : Game → ℕ → ℕ → Band
band_in g f b = band_of (world_after g f) (signals_in g f) b

-- ---- thoughts

-- what agent a sees in frame f, and its memory before
unfoldable pub seen : Game → ℕ → ℕ → View
seen g f a = view (signals_in g f) (world_after g (f - 1)) a

unfoldable pub memory_before : Game → ℕ → ℕ → List ℕ
memory_before g f a = slice_index_or (memories_after g (f - 1)) a []

unfoldable pub thought_in : Game → ℕ → ℕ → Thought
thought_in g f a = thought (seen g f a) (tree_of g a) (memory_before g f a)

-- the same by the name of a thought
abbrev pub thought_for : PartOf → Thought
thought_for p = thought_in p.game p.frame p.number

-- how many questions it asks
unfoldable pub questions_in : Game → ℕ → ℕ → ℕ
questions_in g f a = questions (seen g f a) (tree_of g a) (memory_before g f a)

-- ---- questions

-- the ways to the places of its first n questions
unfoldable pub ways_in : Game → ℕ → ℕ → ℕ → List Answer
ways_in g f a n = ways (seen g f a) (tree_of g a) (memory_before g f a) n

-- the place for which question i asks, and the way to it
unfoldable pub place_in : Game → ℕ → ℕ → ℕ → Option ℕ
place_in g f a i = last_of (ticked (seen g f a) (tree_of g a) (memory_before g f a) (ways_in g f a i)).state.asked

unfoldable pub way_in : Game → ℕ → ℕ → ℕ → Answer
way_in g f a i = next_answer (seen g f a) (tree_of g a) (memory_before g f a) (ways_in g f a i)

-- the way on which agent a would go to a place
abbrev pub way_to_in : Game → (f a place : ℕ) → Answer
way_to_in g f a place = way (seen g f a).world (seen g f a).signals (cell_of (seen g f a)) place

-- ---- what is kept

-- the world and the memories after frame f
pub record IsAfter (g : Game) (f : ℕ) (world : Grid) (memories : List (List ℕ)) : Type 0 where
  pub world_is : world ≡ world_after g f
  pub memories_are : memories ≡ memories_after g f
  pub agents : length world.agents ≡ length g.trees
  pub all_fit : AllFit g.trees memories
