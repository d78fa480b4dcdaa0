-- Frames that are kept as changes.
use Rattle.std.specs.Prelude.{ℕ, zero, suc, ◌≡◌, ◌≢◌, ◌==◌, if◌then◌else◌, Bool, List, [], ◌∷◌, ◌++◌, map, take, drop, None}
use Rattle.std.specs.List.{All}
use Rattle.page_text.specs.Changes.{changed, changes_from, changes_text}
use Rattle.page_text.specs.Reading.{read}

-- the rows of a frame, and the lines of its agents, each with its line feeds
pub record Frame : Type 0 where
  pub rows : List ℕ
  pub lines : List ℕ

-- ---- the film of frames

-- how the rows of a frame are kept behind others: as they are where there are none, else a line of what changed
abbrev pub kept_rows : (old new : List ℕ) → List ℕ
kept_rows [] new = new
kept_rows (c ∷ old) new = changes_text (changes_from 0 (c ∷ old) new) ++ 10 ∷ []

abbrev pub kept_frame : (old : List ℕ) → Frame → List ℕ
kept_frame old frame = kept_rows old frame.rows ++ frame.lines

abbrev pub film_after : (old : List ℕ) → List Frame → List ℕ
film_after old [] = []
film_after old (frame ∷ frames) = kept_frame old frame ++ film_after frame.rows frames

abbrev pub film_of : List Frame → List ℕ
film_of frames = film_after [] frames

-- ---- and back

abbrev pub in_front : ℕ → List ℕ × List ℕ → List ℕ × List ℕ
in_front c parts = (c ∷ parts.0, parts.1)

-- so many lines, and what is behind them; a line ends with its first line feed
abbrev pub lines_of : ℕ → List ℕ → List ℕ × List ℕ
lines_of zero text = ([], text)
lines_of (suc n) [] = ([], [])
lines_of (suc n) (c ∷ text) = in_front c (if c == 10 then lines_of n text else lines_of (suc n) text)

abbrev pub as_frame : List ℕ → List ℕ → Frame
as_frame rows lines = record { rows = rows; lines = lines }

-- further frames, by the rows before them
abbrev pub frames_after : (agents count : ℕ) → (rows : List ℕ) → List ℕ → List Frame
frames_after agents zero rows text = []
frames_after agents (suc n) rows text =
    as_frame (changed rows (read None text).0) (lines_of agents (read None text).1).0
    ∷ frames_after agents n (changed rows (read None text).0) (lines_of agents (read None text).1).1

-- so many frames, of so many agents and bytes of rows
abbrev pub frames_in : (size agents count : ℕ) → List ℕ → List Frame
frames_in size agents zero text = []
frames_in size agents (suc n) text =
    as_frame (take size text) (lines_of agents (drop size text)).0
    ∷ frames_after agents n (take size text) (lines_of agents (drop size text)).1

-- ---- what frames have to be

-- which bytes are line feeds
abbrev pub feeds_of : List ℕ → List Bool
feeds_of text = map (λ c. c == 10) text

-- so many whole lines
abbrev pub IsLines : ℕ → List ℕ → Type 0
IsLines agents lines = (rest : List ℕ) → lines_of agents (lines ++ rest) ≡ (lines, rest)

-- the frames are of one map and of so many agents: line feeds stand at these places of the rows, and nowhere else
pub record IsFrameOf (feeds : List Bool) (agents : ℕ) (frame : Frame) : Type 0 where
  pub rows : feeds_of frame.rows ≡ feeds
  pub lines : IsLines agents frame.lines

-- no byte is a `<`
abbrev pub HasNoMark : List ℕ → Type 0
HasNoMark text = All (λ c. c ≢ 60) text

pub record IsWithoutMark (frame : Frame) : Type 0 where
  pub rows : HasNoMark frame.rows
  pub lines : HasNoMark frame.lines
