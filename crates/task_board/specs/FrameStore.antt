-- What is kept of the frames under way: all of one game, and by the names that the board's law gives it.
use Rattle.std.specs.Prelude.{◌≡◌, ◌<◌, ◌+◌, ◌%◌, ◌^◌, ℕ, Bool, false, List, Option, Some, None, IfSome, length, map, option_map, slice_get}
use Rattle.std.specs.List.{All}
use Rattle.game_rules.specs.Game.{Game}
use Rattle.job_core.specs.declared.names.Event.{Event}
use Rattle.job_core.specs.Core.{Setup, State}
use Rattle.board_model.specs.Stored.{Part, Asked, Stored, part, asked, store}
use Rattle.board_model.specs.Needed.{IsAsked}
use Rattle.frame_state.specs.Names.{FrameOf, PartOf, QuestionOf, frame_of}
use Rattle.frame_state.specs.Contents.{bands_in}
use Rattle.task_board.specs.declared.done.Done.{Done}
use Rattle.task_board.specs.declared.done.Done.TheVariants.{Turned, Thought, Way, Drawn as BandDrawn}

-- ---- names

abbrev pub part_name : PartOf → Part
part_name p = part p.frame p.number

abbrev pub frame_name : Option FrameOf → Option ℕ
frame_name o = option_map (λ p. p.frame) o

abbrev pub question_name : Bool → Option QuestionOf → Option Asked
question_name answered o = option_map (λ q. asked q.frame q.agent q.question answered) o

-- ---- what the parts of a frame store are seen as

-- an agent's last question
pub record AskedOf : Type 0 where
  pub game : Game
  pub asked : Option Asked

-- thoughts
pub record PartsOf : Type 0 where
  pub game : Game
  pub parts : List Part

pub record FrameStoreOf : Type 0 where
  pub game : Game
  pub stored : Stored

abbrev pub IsOfGame : Game → Option FrameOf → Type 0
IsOfGame g o = IfSome o (λ p. p.game ≡ g)

-- what is kept in the order of agents and of slots, by its names
abbrev pub stored_as : Option FrameOf → List (Option FrameOf) → List AskedOf → PartsOf → List (Option FrameOf) → Stored
stored_as next slots asking thoughts turns = record {
  next = frame_name next;
  slots = map frame_name slots;
  asking = map (λ a. a.asked) asking;
  thoughts = thoughts.parts;
  turns = map frame_name turns;
}

-- the sizes of a frame store's lists, as those of a run's setup
abbrev pub sizes : FrameStoreOf → Setup
sizes k = record { frames = 0; agents = length k.game.trees; bands = bands_in k.game; questions = λ f a. 0; workers = 0; small = 0; large = 0; slots = length k.stored.slots }

pub record IsFrameStore (g : Game) (next : Option FrameOf) (slots : List (Option FrameOf)) (asking : List AskedOf) (thoughts : PartsOf) (turns : List (Option FrameOf)) : Type 0 where
  pub next_is : IsOfGame g next
  pub slots_are : All (IsOfGame g) slots
  pub asking_are : All (λ a. a.game ≡ g) asking
  pub thoughts_are : thoughts.game ≡ g
  pub turns_are : All (IsOfGame g) turns
  pub agents : length asking ≡ length g.trees
  pub places : length turns ≡ length slots
  pub some : 0 < length slots

-- ---- what the calls do

-- what the event puts in and takes out, and nothing else
abbrev pub Stores : (old new : FrameStoreOf) → State → Event → Type 0
Stores old new st e = new ≡ record old { stored = store (sizes old) st old.stored e }

-- what is kept of a job has its place, and that is free
abbrev pub IsWanted : FrameStoreOf → Done → Type 0
IsWanted k (Turned t) = slice_get k.stored.turns (t.frame % length k.stored.slots) ≡ Some None
IsWanted k (Thought t) = length k.stored.thoughts < length k.game.trees
IsWanted k (Way w) = IsAsked k.stored w.frame w.agent w.question false
IsWanted k (BandDrawn b) = Unit {0}

-- the frame whose parameters are made of it
abbrev pub next_done : Done → Option FrameOf
next_done (Turned t) = Some (frame_of t.game (t.frame + 1))
next_done done = None

abbrev pub IsBeforeLast : Done → Type 0
IsBeforeLast (Turned t) = t.frame + 1 < 2 ^ 32
IsBeforeLast done = Unit {0}
