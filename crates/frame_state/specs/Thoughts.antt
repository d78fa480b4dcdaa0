-- What is kept of an agent's tick: the way of one of its questions, and what it came to at its end.
use Rattle.std.specs.Prelude.{ℕ, ◌≡◌, ◌<◌, List}
use Rattle.grid_world.specs.declared.cell.Answer.{Answer}
use Rattle.grid_world.specs.declared.cell.Intent.{Intent}
use Rattle.bt_nodes.specs.declared.node.Status.{Status}
use Rattle.bt_nodes.specs.Bounds.{Fits}
use Rattle.game_rules.specs.Game.{Game}
use Rattle.game_jobs.specs.Instance.{tree_of}
use Rattle.frame_state.specs.Contents.{thought_in, questions_in, way_in}

-- the way of question i of agent a's tick in frame f
pub record IsWayOf (g : Game) (f a i : ℕ) (answer : Answer) : Type 0 where
  pub asks : i < questions_in g f a
  pub way_is : answer ≡ way_in g f a i

-- that tick with its first n answers, where it has ended
pub record EndsAt (g : Game) (f a n : ℕ) (status : Status) (memory : List ℕ) (intent : Intent) : Type 0 where
  pub all : n ≡ questions_in g f a
  pub thought_is : record { status = status; memory = memory; intent = intent } ≡ thought_in g f a
  pub fits : Fits (tree_of g a) memory
