-- What is told of what an agent of a handle's game wants to do in the next frame.
use Rattle.std.specs.Prelude.{ℕ, ◌≡◌, ◌≢◌, ◌<◌, ◌+◌, ◌⊎◌, Bool, true, false, nat_lt, if◌then◌else◌, List, [], ◌∷◌, ◌++◌, length, map, Option, Some, None, IsSomeAnd, slice_index_or, unwrap_or}
use Rattle.std.specs.List.{range_with_len}
use Rattle.grid_world.specs.Grid.{Grid, Point, agent_of, point_of}
use Rattle.grid_world.specs.Intents.{apply_all}
use Rattle.grid_world.specs.Walks.{next}
use Rattle.grid_world.specs.Way.{order}
use Rattle.grid_world.specs.declared.cell.Intent.{Intent}
use Rattle.grid_world.specs.declared.cell.Intent.TheVariants.{Stay, Move, Take, Drop, Give}
use Rattle.bt_nodes.specs.declared.node.Status.{Status}
use Rattle.bt_nodes.specs.declared.node.Status.TheVariants.{Running}
use Rattle.bt_nodes.specs.declared.leaf.Leaf.TheVariants.{Carrying}
use Rattle.bt_nodes.specs.Plain as nodes
use Rattle.bt_nodes.specs.Plain.{Plain, Forest, Does}
use Rattle.game_rules.specs.Play.{thoughts_from}
use Rattle.game_rules.specs.Thought.{Thought, thought}
use Rattle.stepping.specs.Played.{Played, answers_under, bits, sight}
use Rattle.btworld_c.specs.Maps.{world_of}
use Rattle.btworld_c.specs.Wants.{node_at, want_of}
use Rattle.btworld_c.specs.declared.game.Wish.{Wish}

-- ---- the deed

-- what each agent wants to do in the next frame, if that has these signals
abbrev pub intents_under : Played → List Bool → List Intent
intents_under p on = map (λ t. t.intent) (thoughts_from p.position.world on 0 p.game.trees p.position.memories)

abbrev pub deed_number : Intent → ℕ
deed_number Stay = 0
deed_number (Move d) = 1
deed_number Take = 2
deed_number Drop = 3
deed_number (Give b) = 4

-- 4 where nobody moves
abbrev pub move_number : Intent → ℕ
move_number (Move d) = order d
move_number i = 4

-- 255 where nothing is given; no game has so many agents
abbrev pub receiver_number : Intent → ℕ
receiver_number (Give b) = if nat_lt b 255 then b else 255
receiver_number i = 255

-- the cell onto which the agent moves, that of the agent to whom it gives, or else its own
abbrev pub cell_meant : Grid → ℕ → Intent → Point
cell_meant w a (Move d) = unwrap_or (next d (point_of (agent_of w a))) (point_of (agent_of w a))
cell_meant w a (Give b) = point_of (agent_of w b)
cell_meant w a i = point_of (agent_of w a)

-- ---- whether the frame does it

-- those of the first agents; the others stay
abbrev pub first_intents : ℕ → List Intent → List Intent
first_intents count intents = map (λ k. if nat_lt k count then slice_index_or intents k Stay else Stay) (range_with_len 0 (length intents))

-- the world as the first agents' intents change it
abbrev pub world_by : Played → List Bool → ℕ → Grid
world_by p on count = apply_all p.position.world on 0 (first_intents count (intents_under p on))

-- the agent's intent, in its turn, changes the world
abbrev pub TellsGranted : Played → List Bool → ℕ → Bool → Type 0
TellsGranted p on a granted =
    (granted ≡ true → world_by p on a ≢ world_by p on (a + 1)) × (granted ≡ false → world_by p on a ≡ world_by p on (a + 1))

-- ---- the node

-- a move and the leaves act, which are Running where they want something
abbrev pub acts : Plain → Bool
acts (nodes.Move p) = true
acts (nodes.Does leaf) = true
acts _ = false

-- of each node, in preorder
abbrev mutual
  pub actors : Plain → List Bool
  actors (nodes.Composite kind children) = acts (nodes.Composite kind children) ∷ actors_in children
  actors (nodes.Star kind children) = acts (nodes.Star kind children) ∷ actors_in children
  actors (nodes.Par m children) = acts (nodes.Par m children) ∷ actors_in children
  actors (nodes.Not child) = acts (nodes.Not child) ∷ actors child
  actors (nodes.Tries k child) = acts (nodes.Tries k child) ∷ actors child
  actors (nodes.Ticks k child) = acts (nodes.Ticks k child) ∷ actors child
  actors (nodes.Wait k) = acts (nodes.Wait k) ∷ []
  actors (nodes.Move p) = acts (nodes.Move p) ∷ []
  actors (nodes.Does leaf) = acts (nodes.Does leaf) ∷ []

  pub actors_in : Forest → List Bool
  actors_in nodes.none = []
  actors_in (nodes.tree child children) = actors child ++ actors_in children

-- node n acts and is Running
abbrev pub Wants : List Bool → List (Option Status) → ℕ → Type 0
Wants acts answers n = (slice_index_or acts n false ≡ true) × (slice_index_or answers n None ≡ Some Running)

-- it is the first one
pub record IsFirstToWant (acts : List Bool) (answers : List (Option Status)) (n : ℕ) : Type 0 where
  pub wants : Wants acts answers n
  pub first : (k : ℕ) → k < n → Wants acts answers k → ⊥

-- the first node that wants something, or that none does, and then 2^32 - 1
abbrev pub IsWantingNode : List Bool → List (Option Status) → ℕ → Type 0
IsWantingNode acts answers node = IsFirstToWant acts answers node ⊎ ((node ≡ 4294967295) × ((k : ℕ) → Wants acts answers k → ⊥))

-- what an agent's tick comes to in the next frame, if that has these signals
abbrev pub thought_under : Played → List Bool → ℕ → Thought
thought_under p on a =
    thought (sight p.position.world on a) (slice_index_or p.game.trees a (Does Carrying)) (slice_index_or p.position.memories a [])

-- what a node of its tree wants then
abbrev pub wanted_by : Played → List Bool → (agent node : ℕ) → Intent
wanted_by p on a node = want_of (sight p.position.world on a) (node_at (slice_index_or p.game.trees a (Does Carrying)) node)

-- ---- all of it

abbrev pub intent_of : Played → List Bool → ℕ → Intent
intent_of p on a = slice_index_or (intents_under p on) a Stay

pub record IsWish (p : Played) (on : List Bool) (a : ℕ) (told : Wish) : Type 0 where
  pub there : a < length p.game.trees
  pub deed : told.deed ≡ deed_number (intent_of p on a)
  pub direction : told.direction ≡ move_number (intent_of p on a)
  pub agent : told.agent ≡ receiver_number (intent_of p on a)
  pub column : told.x ≡ (cell_meant (world_of p) a (intent_of p on a)).x
  pub row : told.y ≡ (cell_meant (world_of p) a (intent_of p on a)).y
  pub granted : TellsGranted p on a told.granted
  pub node : IsWantingNode (actors (slice_index_or p.game.trees a (Does Carrying))) (answers_under p on a) told.node
  -- the intent is what that node wants
  pub wanted : intent_of p on a ≡ wanted_by p on a told.node

-- what an agent of the held game wants in the next frame with the signals of a mask
abbrev pub IsIntent : Option Played → (mask agent : ℕ) → Wish → Type 0
IsIntent held mask agent told = IsSomeAnd held (λ p. IsWish p (bits 26 mask) agent told)
