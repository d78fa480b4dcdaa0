-- What of the stored values each event needs.
use Rattle.std.specs.Prelude.{◌≡◌, ◌<◌, ℕ, zero, suc, ◌%◌, Bool, true, false, ◌==◌, List, Some, None, length, slice_get}
use Rattle.job_core.specs.declared.names.JobName.{JobName}
use Rattle.job_core.specs.declared.names.JobName.TheVariants.{Logic, Think, Path, Draw}
use Rattle.job_core.specs.declared.names.Event.{Event}
use Rattle.job_core.specs.declared.names.Event.TheVariants.{Start, Resume, Ask, Spread, Finish, Emit}
use Rattle.job_core.specs.Core.{Setup, State, step_of}
use Rattle.board_model.specs.Lists.{has}
use Rattle.board_model.specs.Stored.{Stored, Part, parts, asked}

-- the frame is in its slot
abbrev pub IsInSlot : Setup → Stored → ℕ → Type 0
IsInSlot s k f = slice_get k.slots (f % s.slots) ≡ Some (Some f)

-- the question that an agent asked last
abbrev pub IsAsked : Stored → (frame agent question : ℕ) → (answered : Bool) → Type 0
IsAsked k f a i answered = slice_get k.asking a ≡ Some (Some (asked f a i answered))

-- the turn of the frame is in its place
abbrev pub HasTurn : Setup → Stored → ℕ → Type 0
HasTurn s k f = slice_get k.turns (f % s.slots) ≡ Some (Some f)

-- none of these thoughts is of this agent
abbrev pub IsMissing : ℕ → List Part → Type 0
IsMissing n ps = has (λ p. p.number == n) ps ≡ false

-- what the task of a job at this step is made of
abbrev pub HasParts : Setup → Stored → JobName → (step : ℕ) → Type 0
HasParts s k (Logic f) zero = Unit {0}
HasParts s k (Logic f) (suc step) = IsInSlot s k f × (k.thoughts ≡ parts f s.agents)
HasParts s k (Think f a) zero = IsInSlot s k f × (a < s.agents)
HasParts s k (Think f a) (suc i) = IsInSlot s k f × (a < s.agents) × IsAsked k f a i true
HasParts s k (Path f a i) step = IsInSlot s k f × IsAsked k f a i false
HasParts s k (Draw f b) step = HasTurn s k f × (b < s.bands)

-- a job's task has its parts, and what an event keeps has its place
abbrev pub IsThere : Setup → State → Stored → Event → Type 0
IsThere s st k (Start w j) = HasParts s k j 0
IsThere s st k (Resume w j) = HasParts s k j (step_of (st.phase j))
IsThere s st k (Spread w (Logic f)) = (k.next ≡ Some f) × (slice_get k.slots (f % s.slots) ≡ Some None)
IsThere s st k (Ask w (Think f a)) = a < length k.asking
IsThere s st k (Finish w (Logic f)) = slice_get k.turns (f % s.slots) ≡ Some None
IsThere s st k (Finish w (Think f a)) = IsMissing a k.thoughts × (length k.thoughts < s.agents)
IsThere s st k (Finish w (Path f a i)) = IsAsked k f a i false
IsThere s st k (Emit f) = IsInSlot s k f × HasTurn s k f
IsThere s st k _ = Unit {0}

-- the slots, an entry for each agent, and a place for each slot's frame
abbrev pub HasPlaces : Setup → Stored → Type 0
HasPlaces s k = (length k.slots ≡ s.slots) × (length k.asking ≡ s.agents) × (length k.turns ≡ s.slots)
