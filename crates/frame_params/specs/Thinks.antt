-- What tasks and results of a thought keep: what they see, where a tick stands, what it asks for, and what comes of it.
use Rattle.std.specs.Prelude.{ℕ, ◌≡◌, ◌+◌, ◌-◌, ◌<◌, Bool, List, length, Some}
use Rattle.std.specs.Arc.{arc_value}
use Rattle.std.specs.declared.alloc.Global.{Global}
use Rattle.grid_world.specs.Grid.{Grid}
use Rattle.grid_world.specs.declared.cell.Answer.{Answer}
use Rattle.game_rules.specs.Game.{Game}
use Rattle.game_jobs.specs.Instance.{tree_of}
use Rattle.bt_tick.specs.Thinking.{Thinking}
use Rattle.bt_tick.specs.Outcome.{place_of}
use Rattle.bt_tick.specs.declared.tick.Pending.{Pending}
use Rattle.bt_tick.specs.declared.tick.Outcome.{Outcome}
use Rattle.bt_tick.specs.declared.tick.Outcome.TheVariants.{Asks}
use Rattle.frame_state.specs.Names.{ThinkOf, QuestionOf, part_of, question_of}
use Rattle.frame_state.specs.Contents.{signals_in, world_after, seen, memory_before, questions_in, place_in}
use Rattle.frame_state.specs.Thoughts.{IsWayOf}
use Rattle.frame_params.specs.declared.resume_point.ResumePoint.{ResumePoint}
use Rattle.frame_params.specs.declared.resume_point.ResumePoint.TheVariants.{Start, Answered}
use Rattle.frame_params.specs.declared.think_step.ThinkStep.{ThinkStep}
use Rattle.frame_params.specs.declared.think_step.ThinkStep.TheVariants.{Ended as EndedStep, Asks as AsksStep}

-- what agent a sees in frame f: the world after the frame before, and the signals of the frame
pub record Sees (g : Game) (f a : ℕ) (world : Grid) (on : List Bool) : Type 0 where
  pub there : a < length g.trees
  pub agents : length world.agents ≡ length g.trees
  pub world_is : world ≡ world_after g (f - 1)
  pub signals_are : on ≡ signals_in g f

-- what the tick of agent a's tree in frame f comes to with its first i answers
abbrev pub ThinksTo : {A : Type 0} → Game → (f a i : ℕ) → Outcome Global A → Type 0
ThinksTo g f a i outcome = Thinking (seen g f a) (tree_of g a) (memory_before g f a) i outcome

-- that tick, where it stands at question i
pub record StandsAt {A : Type 0} (g : Game) (f a i : ℕ) (p : Pending Global A) : Type 0 where
  pub there : a < length g.trees
  pub thinks : ThinksTo g f a i (Asks (place_of p) p)

-- question i of that tick, which asks for this place
pub record AsksFor (g : Game) (f a i place : ℕ) : Type 0 where
  pub asks : i < questions_in g f a
  pub place_is : place_in g f a i ≡ Some place

-- a tick that is parked, with the way that it asks for; a tree has few nodes, and each asks once at most
pub record GoesOn (g : Game) (f a : ℕ) (tick : QuestionOf) (answer : Answer) : Type 0 where
  pub tick_is : tick ≡ question_of g f a tick.question
  pub way : IsWayOf g f a tick.question answer
  pub few : tick.question < 255

-- a task's tick stands at its start, or at a question to which it has the answer
abbrev pub IsResumePoint : Game → ℕ → ℕ → ResumePoint → Type 0
IsResumePoint g f a Start = Unit {0}
IsResumePoint g f a (Answered tick answer) = GoesOn g f a (arc_value tick) answer

-- how many questions are answered
abbrev pub answered_at : ResumePoint → ℕ
answered_at Start = 0
answered_at (Answered tick answer) = (arc_value tick).question + 1

-- it ends exactly where all its questions are answered, and else it asks the first of the others
abbrev pub IsThinkStep : ThinkOf → ThinkStep → Type 0
IsThinkStep t (EndedStep thought) = (t.answered ≡ questions_in t.game t.frame t.agent) × (thought ≡ part_of t.game t.frame t.agent)
IsThinkStep t (AsksStep parked) = (t.answered < questions_in t.game t.frame t.agent) × (parked ≡ question_of t.game t.frame t.agent t.answered)
