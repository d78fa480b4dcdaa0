-- What a text of a state tells, read from left to right, with the first fault that is met.
use Rattle.std.specs.Prelude.{ℕ, zero, suc, ◌≡◌, ◌≢◌, ◌+◌, ◌-◌, ◌*◌, ◌^◌, ◌==◌, ◌&&◌, nat_eq, nat_lt, nat_le, Bool, true, false, if◌then◌else◌, List, [], ◌∷◌, ◌++◌, length, take, drop, replicate, slice_set, codes, Option, Some, None, option_to_list, Result, Ok, Err}
use Rattle.std.specs.Char.{is_ascii_digit, is_ascii_hexdigit}
use Rattle.std.specs.Cmp.Lexicographic.{pointwise}
use Rattle.std.specs.List.{list_all}
use Rattle.byte_streams.specs.Hex.{hex}
use Rattle.grid_world.specs.declared.cell.Agent.{Agent}
use Rattle.grid_world.specs.Ground.{no_signals}
use Rattle.bt_nodes.specs.declared.node.Status.{Status}
use Rattle.bt_nodes.specs.declared.node.Status.TheVariants.{Success, Failure, Running}
use Rattle.game_rules.specs.Game.{Game, signals}
use Rattle.stepping.specs.declared.load_fault.LoadFault.{LoadFault}
use Rattle.stepping.specs.declared.load_fault.LoadFault.TheVariants.{OutOfMemory, Text, Level, World}
use Rattle.stepping.specs.declared.state_lines.Told.{Told}
use Rattle.stepping.specs.Played.{Played, next_signals}
use Rattle.stepping.specs.StateText.{AreOfOneLevel, IsState}

infixl 10 ◌>>=◌
abbrev pub ◌>>=◌ : {A B : Type 0} → Result A LoadFault → (A → Result B LoadFault) → Result B LoadFault
(Ok x) >>= f = f x
(Err e) >>= f = Err e

abbrev pub Fails : {Y : Type 0} → LoadFault → Result Y LoadFault → Type 0
Fails OutOfMemory read = Unit {0}
Fails Text read = read ≡ Err Text
Fails Level read = read ≡ Err Level
Fails World read = read ≡ Err World

-- what was returned, seen by view, is what reading gives, unless memory was refused
abbrev pub Gives : {X Y : Type 0} → (X → Y) → Result X LoadFault → Result Y LoadFault → Type 0
Gives view (Ok x) read = read ≡ Ok (view x)
Gives view (Err e) read = Fails e read

-- ---- words and numbers

abbrev pub begins : (word bytes : List ℕ) → Bool
begins word bytes = pointwise nat_eq (take (length word) bytes) word

-- what stands behind a word
unfoldable pub behind_at : (word bytes : List ℕ) → Result (List ℕ) LoadFault
behind_at word bytes = if begins word bytes then Ok (drop (length word) bytes) else Err Text

-- further digits of a number that is value so far, and what stands behind them
unfoldable pub number_from : ℕ → List ℕ → Result (ℕ × List ℕ) LoadFault
number_from value [] = Ok (value, [])
number_from value (c ∷ cs) =
    if is_ascii_digit c then (if nat_lt (value * 10 + (c - 48)) (2 ^ 32) then number_from (value * 10 + (c - 48)) cs else Err Text)
    else Ok (value, c ∷ cs)

-- a column and a row
unfoldable pub point_at : List ℕ → Result (ℕ × ℕ × List ℕ) LoadFault
point_at bytes = do
  x ← number_from 0 bytes
  row ← behind_at (codes ",") x.1
  y ← number_from 0 row
  Ok (x.0, y.0, y.1)

-- ---- the head

abbrev pub level_word : List ℕ
level_word = codes "btworld state 1 level "

-- 16 hexadecimal digits stand where a state's text has those of its level
abbrev pub names_level : List ℕ → Bool
names_level bytes =
    begins level_word bytes && nat_le 16 (length (drop (length level_word) bytes)) && list_all is_ascii_hexdigit (take 16 (drop (length level_word) bytes))

unfoldable pub level_at : ℕ → List ℕ → Result (List ℕ) LoadFault
level_at digest bytes =
    if begins (level_word ++ hex 16 digest) bytes then Ok (drop (length (level_word ++ hex 16 digest)) bytes)
    else (if names_level bytes then Err Level else Err Text)

-- further letters, each behind a space
unfoldable pub signals_from : List Bool → List ℕ → Result (List Bool × List ℕ) LoadFault
signals_from on [] = Ok (on, [])
signals_from on (c ∷ []) = Ok (on, c ∷ [])
signals_from on (c ∷ letter ∷ cs) =
    if c == 32 then (if nat_le 97 letter && nat_lt (letter - 97) 26 then signals_from (slice_set on (letter - 97) true) cs else Err Text)
    else Ok (on, c ∷ letter ∷ cs)

-- the number of the frame, and the signals that are shown and of the next frame
pub record HeadTold : Type 0 where
  pub frame : ℕ
  pub shown : List Bool
  pub next : List Bool

unfoldable pub head_at : ℕ → List ℕ → Result (HeadTold × List ℕ) LoadFault
head_at digest bytes = do
  level ← level_at digest bytes
  word ← behind_at (codes " frame ") level
  frame ← number_from 0 word
  shown_word ← behind_at (codes "\nshown") frame.1
  shown ← signals_from no_signals shown_word
  next_word ← behind_at (codes "\nnext") shown.1
  next ← signals_from no_signals next_word
  rest ← behind_at (codes "\n") next.1
  Ok (record { frame = frame.0; shown = shown.0; next = next.0 }, rest)

-- ---- agents

unfoldable pub answer_at : ℕ → Result (Option Status) LoadFault
answer_at letter =
    if letter == 45 then Ok None else (if letter == 83 then Ok (Some Success) else (if letter == 70 then Ok (Some Failure)
    else (if letter == 82 then Ok (Some Running) else Err Text)))

-- the answer behind the agent's letter
unfoldable pub told_at : List ℕ → Result (Option Status × List ℕ) LoadFault
told_at (name ∷ s ∷ letter ∷ t ∷ rest) = if s == 32 && t == 32 then (answer_at letter >>= λ answer. Ok (answer, rest)) else Err Text
told_at _ = Err Text

-- whether it carries an item
unfoldable pub load_at : List ℕ → Result (Bool × List ℕ) LoadFault
load_at (s ∷ load ∷ rest) = if s == 32 then Ok (load == 42, rest) else Err Text
load_at _ = Err Text

-- a number of a memory, behind a space
unfoldable pub small_at : List ℕ → Result (ℕ × List ℕ) LoadFault
small_at bytes = do
  word ← behind_at (codes " ") bytes
  number ← number_from 0 word
  if nat_lt number.0 (2 ^ 16) then Ok number else Err World

-- so many further numbers
unfoldable pub memory_from : List ℕ → ℕ → List ℕ → Result (List ℕ × List ℕ) LoadFault
memory_from before zero bytes = Ok (before, bytes)
memory_from before (suc n) bytes = do
  number ← small_at bytes
  memory_from (before ++ number.0 ∷ []) n number.1

pub record LineTold : Type 0 where
  pub agent : Agent
  pub answer : Option Status
  pub memory : List ℕ

-- the line of an agent whose tree has so many nodes
unfoldable pub line_at : ℕ → List ℕ → Result (LineTold × List ℕ) LoadFault
line_at size bytes = do
  answer ← told_at bytes
  cell ← point_at answer.1
  load ← load_at cell.2
  memory ← memory_from [] size load.1
  rest ← behind_at (codes "\n") memory.1
  Ok (record { agent = record { x = cell.0; y = cell.1; carrying = load.0 }; answer = answer.0; memory = memory.0 }, rest)

pub record CrewTold : Type 0 where
  pub agents : List Agent
  pub answers : List Status
  pub memories : List (List ℕ)

abbrev pub no_crew : CrewTold
no_crew = record { agents = []; answers = []; memories = [] }

abbrev pub with_line : CrewTold → LineTold → CrewTold
with_line crew line =
    record { agents = crew.agents ++ line.agent ∷ []; answers = crew.answers ++ option_to_list line.answer; memories = crew.memories ++ line.memory ∷ [] }

-- the lines of further agents, whose trees have so many nodes
unfoldable pub crew_from : CrewTold → List ℕ → List ℕ → Result (CrewTold × List ℕ) LoadFault
crew_from crew [] bytes = Ok (crew, bytes)
crew_from crew (size ∷ sizes) bytes = do
  line ← line_at size bytes
  crew_from (with_line crew line.0) sizes line.1

-- ---- items

-- the number of the cell in a line, on a map with so many columns and rows
unfoldable pub item_at : (width height : ℕ) → List ℕ → Result (ℕ × List ℕ) LoadFault
item_at width height bytes = do
  word ← behind_at (codes "item ") bytes
  cell ← point_at word
  if nat_lt cell.0 width && nat_lt cell.1 height then (behind_at (codes "\n") cell.2 >>= λ rest. Ok (cell.1 * width + cell.0, rest)) else Err World

-- at most so many further lines
unfoldable pub items_from : (width height most : ℕ) → List Bool → List ℕ → Result (List Bool) LoadFault
items_from width height zero items bytes = Ok items
items_from width height (suc most) items [] = Ok items
items_from width height (suc most) items (c ∷ cs) = do
  item ← item_at width height (c ∷ cs)
  items_from width height most (slice_set items item.0 true) item.1

-- ---- states

pub record StateTold : Type 0 where
  pub head : HeadTold
  pub crew : CrewTold
  pub items : List Bool

-- of a level with this digest, a map of so many columns and rows, and trees of so many nodes
unfoldable pub state_at : (digest width height : ℕ) → List ℕ → List ℕ → Result StateTold LoadFault
state_at digest width height sizes bytes = do
  head ← head_at digest bytes
  crew ← crew_from no_crew sizes head.1
  items ← items_from width height (width * height) (replicate (width * height) false) crew.1
  Ok (record { head = head.0; crew = crew.0; items = items })

-- ---- what is told of a game

abbrev pub told_of : Played → StateTold
told_of p = record {
  head = record { frame = p.frame; shown = signals p.game.changes p.frame; next = next_signals p };
  crew = record { agents = p.position.world.agents; answers = p.answers; memories = p.position.memories };
  items = p.position.world.items;
}

-- as it is read
abbrev pub told_in : Told → StateTold
told_in t = record {
  head = record { frame = t.head.frame; shown = t.head.shown; next = t.head.next };
  crew = record { agents = t.crew.agents.items; answers = t.crew.answers.items; memories = t.crew.memories.items };
  items = t.items.items;
}

-- of no state of a game's level
abbrev pub IsOfNone : Game → StateTold → Type 0
IsOfNone g told = (p : Played) → IsState p → AreOfOneLevel g p.game → told ≢ told_of p
