-- What the calls do to the game of a handle.
use Rattle.std.specs.Prelude.{ℕ, ◌≡◌, ◌⊎◌, List, [], Option, Some, None, Ok}
use Rattle.game_rules.specs.declared.change.Change.{Change}
use Rattle.game_session.specs.Parts.{Parts}
use Rattle.game_session.specs.Sessions.{game_of}
use Rattle.level_text.specs.Levels.{spelled}
use Rattle.level_text.specs.Scripts.{script_of}
use Rattle.stepping.specs.Played.{Played, opened, bits, scripted_signals, IsRefused, IsStepped}
use Rattle.stepping.specs.StateText.{state_text, IsNoText, IsState}
use Rattle.btworld_c.specs.Statuses.{taken, IsLevelStatus, IsSessionStatus, IsStateFault}

-- it is the game of the level that bytes spell, before the first frame, with an empty script beside it
pub record IsOpened (bytes : List ℕ) (held : Option Played) : Type 0 where
  pub level : Parts
  pub spells : spelled bytes ≡ Ok level
  pub is : held ≡ Some (opened (game_of level []) [])

-- what opening answers: that a game is there already, or how the bytes are as a level
abbrev pub IsOpenStatus : List ℕ → Option Played → ℕ → Type 0
IsOpenStatus bytes None status = IsLevelStatus bytes status
IsOpenStatus bytes (Some game) status = status ≡ taken

-- it is the level's game before the first frame, with the script beside it that bytes spell
pub record IsOpenedBeside (bytes script : List ℕ) (held : Option Played) : Type 0 where
  pub level : Parts
  pub changes : List Change
  pub spells : spelled bytes ≡ Ok level
  pub spells_script : script_of script ≡ Ok changes
  pub is : held ≡ Some (opened (game_of level []) changes)

abbrev pub IsOpenBesideStatus : (level script : List ℕ) → Option Played → ℕ → Type 0
IsOpenBesideStatus level script None status = IsSessionStatus level script status
IsOpenBesideStatus level script (Some game) status = status ≡ taken

-- it is the game of the level that bytes spell, in the state whose text this is, with an empty script beside it
pub record IsLoaded (bytes text : List ℕ) (held : Option Played) : Type 0 where
  pub level : Parts
  pub game : Played
  pub spells : spelled bytes ≡ Ok level
  pub plays : game.game ≡ game_of level game.game.changes
  pub tells : state_text game ≡ text
  pub no_script : game.script ≡ []
  pub stands : IsState game
  pub is : held ≡ Some game

-- the bytes spell a level, and the text is that of no state of it
pub record IsUnloadable (bytes text : List ℕ) (status : ℕ) : Type 0 where
  pub level : Parts
  pub spells : spelled bytes ≡ Ok level
  pub no_state : IsNoText (game_of level []) text
  pub fault : IsStateFault status

-- the bytes spell a level and a script, and the text is that of no state of the level
pub record IsUnloadableBeside (bytes script text : List ℕ) (status : ℕ) : Type 0 where
  pub changes : List Change
  pub spells_script : script_of script ≡ Ok changes
  pub of_level : IsUnloadable bytes text status

-- what loading answers: that a game is there already, or how the bytes are as a level, or why the text is not loaded
abbrev pub IsLoadStatus : (bytes text : List ℕ) → Option Played → ℕ → Type 0
IsLoadStatus bytes text None status = IsLevelStatus bytes status ⊎ IsUnloadable bytes text status
IsLoadStatus bytes text (Some game) status = status ≡ taken

-- it is the game of the level that bytes spell, in the state whose text this is, with the script beside it that bytes spell
pub record IsLoadedBeside (bytes script text : List ℕ) (held : Option Played) : Type 0 where
  pub level : Parts
  pub changes : List Change
  pub game : Played
  pub spells : spelled bytes ≡ Ok level
  pub spells_script : script_of script ≡ Ok changes
  pub plays : game.game ≡ game_of level game.game.changes
  pub tells : state_text game ≡ text
  pub beside : game.script ≡ changes
  pub stands : IsState game
  pub is : held ≡ Some game

-- what loading with a script answers: that a game is there already, or how the bytes are as a level and a script, or why the text is
-- not loaded, where they spell both
abbrev pub IsLoadBesideStatus : (bytes script text : List ℕ) → Option Played → ℕ → Type 0
IsLoadBesideStatus bytes script text None status = IsSessionStatus bytes script status ⊎ IsUnloadableBeside bytes script text status
IsLoadBesideStatus bytes script text (Some game) status = status ≡ taken

-- a game was held, and is a frame on, in which the signals were on whose bits are
abbrev pub IsSteppedIn : ℕ → Option Played → Option Played → Type 0
IsSteppedIn mask (Some before) (Some after) = IsStepped (bits 26 mask) before after
IsSteppedIn mask before after = ⊥

-- a game was held, and is a frame on, in which its script's signals were on
abbrev pub IsSteppedByScript : Option Played → Option Played → Type 0
IsSteppedByScript (Some before) (Some after) = IsStepped (scripted_signals before) before after
IsSteppedByScript before after = ⊥

-- no frame was stepped; some of the signals that a mask wants may be on or off in the next
abbrev pub IsNotStepped : ℕ → Option Played → Option Played → Type 0
IsNotStepped mask None None = Unit {0}
IsNotStepped mask (Some before) (Some after) = IsRefused (bits 26 mask) before after
IsNotStepped mask before after = ⊥

-- no frame was stepped; some of the signals of its script may be on or off in the next
abbrev pub IsNotSteppedByScript : Option Played → Option Played → Type 0
IsNotSteppedByScript None None = Unit {0}
IsNotSteppedByScript (Some before) (Some after) = IsRefused (scripted_signals before) before after
IsNotSteppedByScript before after = ⊥
