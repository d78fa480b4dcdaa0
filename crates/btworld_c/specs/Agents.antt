-- What is read of all agents of a handle's game.
use Rattle.std.specs.Prelude.{ℕ, ◌==◌, if◌then◌else◌, List, length, map, Option, IsSomeAnd, slice_index_or}
use Rattle.std.specs.List.{range_with_len}
use Rattle.grid_world.specs.Grid.{agent_of}
use Rattle.grid_world.specs.declared.cell.Agent.{Agent as Body}
use Rattle.bt_nodes.specs.declared.node.Status.TheVariants.{Success}
use Rattle.stepping.specs.Played.{Played}
use Rattle.btworld_c.specs.Buffers.{IsFilled, IsShort}
use Rattle.btworld_c.specs.Readings.{status_number}
use Rattle.btworld_c.specs.declared.game.Agent.{Agent}

-- the agent's answer in the frame, and 3 before the first one
abbrev pub answer_seen : Played → ℕ → ℕ
answer_seen p number = if p.frame == 0 then 3 else status_number (slice_index_or p.answers number Success)

abbrev pub body_seen : Body → ℕ → Agent
body_seen body answer = record { x = body.x; y = body.y; carrying = body.carrying; status = answer }

-- an agent after the frame, or before the first one
abbrev pub agent_seen : Played → ℕ → Agent
agent_seen p number = body_seen (agent_of p.position.world number) (answer_seen p number)

-- A first
abbrev pub agents_seen : Played → List Agent
agents_seen p = map (agent_seen p) (range_with_len 0 (length p.game.trees))

-- all agents of the held game stand at the start of a buffer, which is kept behind them
abbrev pub AreAgents : Option Played → ℕ → (old new : List Agent) → Type 0
AreAgents held size old new = IsSomeAnd held (λ p. IsFilled (agents_seen p) size old new)

-- they are so many, and more than fit in a buffer
abbrev pub AreTooManyAgents : Option Played → ℕ → List Agent → Type 0
AreTooManyAgents held size buffer = IsSomeAnd held (λ p. IsShort (agents_seen p) size buffer)
