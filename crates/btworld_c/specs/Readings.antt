-- What is read of the game of a handle.
use Rattle.std.specs.Prelude.{ℕ, ◌≡◌, ◌<◌, ◌≤◌, ◌≢◌, Bool, true, false, List, [], length, map, Option, Some, None, IsSomeAnd, slice_index_or}
use Rattle.grid_world.specs.Grid.{agent_of}
use Rattle.grid_world.specs.declared.cell.Agent.{Agent as Body}
use Rattle.bt_nodes.specs.declared.node.Status.{Status}
use Rattle.bt_nodes.specs.declared.node.Status.TheVariants.{Success, Failure, Running}
use Rattle.game_rules.specs.Game.{signals}
use Rattle.stepping.specs.Played.{Played, state_of, text_of, scripted_signals, answers_under, bits, AreBits}
use Rattle.stepping.specs.Digest.{digest_of}
use Rattle.btworld_c.specs.Buffers.{IsFilled, IsShort}
use Rattle.btworld_c.specs.declared.game.Agent.{Agent}

-- the text of the held game's frame stands at the start of a buffer, which is kept behind it
abbrev pub IsText : Option Played → ℕ → (old new : List ℕ) → Type 0
IsText held size old new = IsSomeAnd held (λ p. IsFilled (text_of p) size old new)

-- the text of the held game's frame is so long, and longer than a buffer
abbrev pub IsTooLong : Option Played → ℕ → List ℕ → Type 0
IsTooLong held size buffer = IsSomeAnd held (λ p. IsShort (text_of p) size buffer)

abbrev pub status_number : Status → ℕ
status_number Success = 0
status_number Failure = 1
status_number Running = 2

abbrev pub agent_told : Body → Status → Agent
agent_told body status = record { x = body.x; y = body.y; carrying = body.carrying; status = status_number status }

-- an agent of the held game after its frame
abbrev pub IsAgent : Option Played → ℕ → Agent → Type 0
IsAgent held number told = IsSomeAnd held (λ p. (number < length p.game.trees) × (told ≡ agent_told (agent_of p.position.world number) (slice_index_or p.answers number Success)))

-- there is no agent of this number
abbrev pub IsBeyondAgents : Option Played → ℕ → Type 0
IsBeyondAgents held number = IsSomeAnd held (λ p. length p.game.trees ≤ number)

abbrev pub memory_of : Played → ℕ → List ℕ
memory_of p agent = slice_index_or p.position.memories agent []

-- the memory of an agent of the held game stands at the start of a buffer, which is kept behind it
abbrev pub IsMemory : Option Played → (agent size : ℕ) → (old new : List ℕ) → Type 0
IsMemory held agent size old new = IsSomeAnd held (λ p. (agent < length p.game.trees) × IsFilled (memory_of p agent) size old new)

-- the memory of an agent of the held game is so long, and longer than a buffer
abbrev pub IsMemoryTooLong : Option Played → (agent size : ℕ) → List ℕ → Type 0
IsMemoryTooLong held agent size buffer = IsSomeAnd held (λ p. (agent < length p.game.trees) × IsShort (memory_of p agent) size buffer)

-- of a node; 3 where it is not ticked
abbrev pub answer_number : Option Status → ℕ
answer_number None = 3
answer_number (Some status) = status_number status

-- of the nodes of an agent's tree, in preorder, in the next frame with the signals of a mask
abbrev pub answers_of : Played → (mask agent : ℕ) → List ℕ
answers_of p mask agent = map answer_number (answers_under p (bits 26 mask) agent)

-- the answers of an agent's nodes in the held game stand at the start of a buffer, which is kept behind them
abbrev pub AreAnswers : Option Played → (mask agent size : ℕ) → (old new : List ℕ) → Type 0
AreAnswers held mask agent size old new = IsSomeAnd held (λ p. (agent < length p.game.trees) × IsFilled (answers_of p mask agent) size old new)

-- they are so many, and more than fit in a buffer
abbrev pub AreAnswersTooLong : Option Played → (mask agent size : ℕ) → List ℕ → Type 0
AreAnswersTooLong held mask agent size buffer = IsSomeAnd held (λ p. (agent < length p.game.trees) × IsShort (answers_of p mask agent) size buffer)

abbrev pub IsFrame : Option Played → ℕ → Type 0
IsFrame held frame = IsSomeAnd held (λ p. frame ≡ p.frame)

abbrev pub IsDigest : Option Played → ℕ → Type 0
IsDigest held digest = IsSomeAnd held (λ p. digest ≡ digest_of (state_of p))

-- the signals of the held game's frame, and those of its script in the next frame
abbrev pub AreSignals : Option Played → (shown scripted : ℕ) → Type 0
AreSignals held shown scripted = IsSomeAnd held (λ p. AreBits shown (signals p.game.changes p.frame) × AreBits scripted (scripted_signals p))

-- whether two held games are in the same state
abbrev pub TellsSame : Option Played → Option Played → Bool → Type 0
TellsSame (Some p) (Some q) same = (same ≡ true → state_of p ≡ state_of q) × (same ≡ false → state_of p ≢ state_of q)
TellsSame p q same = ⊥
