-- Why an agent did what it did in a frame: what its tick came to, node by node.
use Rattle.std.specs.Prelude.{ℕ, zero, suc, ◌≡◌, ◌<◌, ◌≤◌, ◌⊎◌, List, [], length, IsSomeAnd, unwrap_or}
use Rattle.game_rules.specs.Game.{Game, signals}
use Rattle.game_rules.specs.Play.{play}
use Rattle.level_text.specs.Arguments.{mark_of}
use Rattle.level_text.specs.Games.{spelled_game}
use Rattle.stepping.specs.Played.{statuses_at}
use Rattle.tick_text.specs.Text.{tick_text}
use Rattle.command_line.specs.declared.program_fault.Fault.{Fault}
use Rattle.command_line.specs.declared.program_fault.Fault.TheVariants.{NoSuchAgent, OutOfMemory}
use Rattle.command_line.specs.Sessions.{IsSessionFault}

-- what is told of the agent's tick in the frame; there is none in frame 0
abbrev pub why_text : Game → ℕ → ℕ → List ℕ
why_text g zero a = []
why_text g (suc f) a = tick_text g.trees (signals g.changes (suc f)) (play g f) (play g (suc f)) (statuses_at g (suc f)) (suc f) a

-- ---- letters

-- the number of the agent of a letter; no game has an agent 26
abbrev pub agent_of_letter : List ℕ → ℕ
agent_of_letter letter = unwrap_or (mark_of 65 90 letter) 26

abbrev pub HasAgent : ℕ → Game → Type 0
HasAgent a g = a < length g.trees

-- a fault of level or script, out of memory, or no agent of the game has the letter
abbrev pub IsUntold : (level script letter : List ℕ) → Fault → Type 0
IsUntold level script letter fault =
    IsSessionFault level script fault
    ⊎ ((fault ≡ OutOfMemory) ⊎ ((fault ≡ NoSuchAgent) × IsSomeAnd (spelled_game level script) (λ g. length g.trees ≤ agent_of_letter letter)))
