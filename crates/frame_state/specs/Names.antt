-- What tasks and results are seen as: their game, their frame and their numbers. Frames count from 1, agents, questions
-- and bands from 0. What they hold beside that is settled by these, and stands in Contents.
use Rattle.std.specs.Prelude.{ℕ, Bool, ◌≡◌, List, length, map, refl}
use Rattle.std.specs.Coded.{Coded, code_by, coded×, coded_ℕ, coded_bool}
use Rattle.grid_world.specs.Map.{count_up}
use Rattle.game_rules.specs.Game.{Game}
use Rattle.game_session.specs.GameCode.{game_code}

-- a frame of a game: what its jobs read, or what came of it
pub record FrameOf : Type 0 where
  pub game : Game
  pub frame : ℕ

-- an agent's or a band's part of a frame: a thought, or the rows of a band
pub record PartOf : Type 0 where
  pub game : Game
  pub frame : ℕ
  pub number : ℕ

-- a path question of an agent in a frame: a tick that stands at it, the search for its answer, or the way
pub record QuestionOf : Type 0 where
  pub game : Game
  pub frame : ℕ
  pub agent : ℕ
  pub question : ℕ

-- the job of a frame's logic: not spread at its start, spread when it has the thoughts of all agents
pub record LogicOf : Type 0 where
  pub game : Game
  pub frame : ℕ
  pub has_spread : Bool

-- the job of an agent's thought: so many of its questions are answered, none at its start
pub record ThinkOf : Type 0 where
  pub game : Game
  pub frame : ℕ
  pub agent : ℕ
  pub answered : ℕ

-- ---- names made of others

abbrev pub frame_of : Game → ℕ → FrameOf
frame_of g f = record { game = g; frame = f }

abbrev pub part_of : Game → ℕ → ℕ → PartOf
part_of g f n = record { game = g; frame = f; number = n }

abbrev pub logic_of : Game → ℕ → Bool → LogicOf
logic_of g f has_spread = record { game = g; frame = f; has_spread = has_spread }

abbrev pub think_of : Game → ℕ → ℕ → ℕ → ThinkOf
think_of g f a answered = record { game = g; frame = f; agent = a; answered = answered }

abbrev pub question_of : Game → ℕ → ℕ → ℕ → QuestionOf
question_of g f a i = record { game = g; frame = f; agent = a; question = i }

-- the parts of all agents, in order
abbrev pub AreOfAllAgents : FrameOf → List PartOf → Type 0
AreOfAllAgents p parts = parts ≡ map (part_of p.game p.frame) (count_up 0 (length p.game.trees))

-- ---- how the logic stores them

abbrev pub frame_code : Coded FrameOf
frame_code = code_by (Game × ℕ) (coded× game_code coded_ℕ) (λ f. (f.game, f.frame)) (λ p. record { game = p.0; frame = p.1 }) (λ _. refl)

abbrev pub part_code : Coded PartOf
part_code =
    code_by (Game × (ℕ × ℕ)) (coded× game_code (coded× coded_ℕ coded_ℕ)) (λ n. (n.game, (n.frame, n.number)))
    (λ p. record { game = p.0; frame = p.1.0; number = p.1.1 }) (λ _. refl)

abbrev pub question_code : Coded QuestionOf
question_code =
    code_by (Game × (ℕ × (ℕ × ℕ))) (coded× game_code (coded× coded_ℕ (coded× coded_ℕ coded_ℕ)))
    (λ q. (q.game, (q.frame, (q.agent, q.question))))
    (λ p. record { game = p.0; frame = p.1.0; agent = p.1.1.0; question = p.1.1.1 }) (λ _. refl)

abbrev pub logic_code : Coded LogicOf
logic_code =
    code_by (Game × (ℕ × Bool)) (coded× game_code (coded× coded_ℕ coded_bool)) (λ l. (l.game, (l.frame, l.has_spread)))
    (λ p. record { game = p.0; frame = p.1.0; has_spread = p.1.1 }) (λ _. refl)

abbrev pub think_code : Coded ThinkOf
think_code =
    code_by (Game × (ℕ × (ℕ × ℕ))) (coded× game_code (coded× coded_ℕ (coded× coded_ℕ coded_ℕ)))
    (λ q. (q.game, (q.frame, (q.agent, q.answered))))
    (λ p. record { game = p.0; frame = p.1.0; agent = p.1.1.0; answered = p.1.1.1 }) (λ _. refl)
