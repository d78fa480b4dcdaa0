-- The digest of a state: FNV-1a of 64 bits over its bytes.
use Rattle.std.specs.Prelude.{ℕ, zero, suc, ◌*◌, ◌%◌, ◌/◌, ◌^◌, ◌++◌, bit_xor, Bool, if◌then◌else◌, List, [], ◌∷◌, map}
use Rattle.std.specs.List.{flat_map}
use Rattle.grid_world.specs.declared.cell.Agent.{Agent}
use Rattle.stepping.specs.Played.{State}

-- ---- FNV-1a

-- one byte more
abbrev pub fnv : ℕ → ℕ → ℕ
fnv hash byte = (bit_xor hash byte * 1099511628211) % 2 ^ 64

abbrev pub fnv_all : ℕ → List ℕ → ℕ
fnv_all hash [] = hash
fnv_all hash (byte ∷ more) = fnv_all (fnv hash byte) more

-- ---- bytes

-- so many bytes of a number, the lowest first
abbrev pub bytes : ℕ → ℕ → List ℕ
bytes zero n = []
bytes (suc k) n = n % 256 ∷ bytes k (n / 256)

abbrev pub bit : Bool → ℕ
bit on = if on then 1 else 0

abbrev pub agent_bytes : Agent → List ℕ
agent_bytes agent = bytes 4 agent.x ++ bytes 4 agent.y ++ bit agent.carrying ∷ []

abbrev pub memory_bytes : List ℕ → List ℕ
memory_bytes memory = flat_map (bytes 2) memory

-- of each item the number of its cell; cells are counted row after row, here from i on
abbrev pub item_bytes : ℕ → List Bool → List ℕ
item_bytes i [] = []
item_bytes i (here ∷ more) = (if here then bytes 4 i else []) ++ item_bytes (suc i) more

-- the frame, a byte for each signal, the agents, their memories, the items
abbrev pub state_bytes : State → List ℕ
state_bytes s =
    bytes 4 s.frame ++ map bit s.signals ++ flat_map agent_bytes s.world.agents ++ flat_map memory_bytes s.memories ++ item_bytes 0 s.world.items

abbrev pub digest_of : State → ℕ
digest_of s = fnv_all 14695981039346656037 (state_bytes s)
