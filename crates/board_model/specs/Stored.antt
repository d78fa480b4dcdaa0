-- What a board keeps of the work that was done, for the tasks to come: by the names of the values, and what each event does to it.
use Rattle.std.specs.Prelude.{ℕ, suc, ◌%◌, Bool, true, false, nat_lt, List, [], ◌∷◌, Option, Some, None, if◌then◌else◌, map, replicate, slice_set}
use Rattle.std.specs.List.{range_with_len}
use Rattle.job_core.specs.declared.names.JobName.TheVariants.{Logic, Think, Path}
use Rattle.job_core.specs.declared.names.Event.{Event}
use Rattle.job_core.specs.declared.names.Event.TheVariants.{Resume, Ask, Spread, Finish, Emit}
use Rattle.job_core.specs.Core.{Setup, State, step_of, after, opening}

-- an agent's thought of a frame
pub record Part : Type 0 where
  pub frame : ℕ
  pub number : ℕ

-- a question of an agent, and whether its answer is there
pub record Asked : Type 0 where
  pub frame : ℕ
  pub agent : ℕ
  pub question : ℕ
  pub answered : Bool

pub record Stored : Type 0 where
  pub next : Option ℕ  -- the frame to spread next
  pub slots : List (Option ℕ)  -- the frame in each slot
  pub asking : List (Option Asked)  -- the last question of each agent
  pub thoughts : List Part  -- of the frame whose thinks are under way, in the order of agents
  pub turns : List (Option ℕ)  -- the frame in each slot whose turn is there

abbrev pub part : ℕ → ℕ → Part
part f n = record { frame = f; number = n }

-- the parts of the first n numbers, in order
abbrev pub parts : ℕ → ℕ → List Part
parts f n = map (part f) (range_with_len 0 n)

abbrev pub asked : (frame agent question : ℕ) → Bool → Asked
asked f a i answered = record { frame = f; agent = a; question = i; answered = answered }

-- a part more, before the first of a greater number
abbrev pub put_in : Part → List Part → List Part
put_in p [] = p ∷ []
put_in p (q ∷ qs) = if nat_lt p.number q.number then (p ∷ q ∷ qs) else (q ∷ put_in p qs)

-- what an event puts in, and what it takes out. A Logic that goes on takes the thoughts with it
abbrev pub store : Setup → State → Stored → Event → Stored
store s st k (Spread w (Logic f)) = record k { next = None; slots = slice_set k.slots (f % s.slots) (Some f) }
store s st k (Resume w (Logic f)) = record k { thoughts = [] }
store s st k (Ask w (Think f a)) = record k { asking = slice_set k.asking a (Some (asked f a (step_of (st.phase (Think f a))) false)) }
store s st k (Finish w (Path f a i)) = record k { asking = slice_set k.asking a (Some (asked f a i true)) }
store s st k (Finish w (Think f a)) = record k { thoughts = put_in (part f a) k.thoughts }
store s st k (Finish w (Logic f)) = record k { next = Some (suc f); turns = slice_set k.turns (f % s.slots) (Some f) }
store s st k (Emit f) = record k { slots = slice_set k.slots (f % s.slots) None; turns = slice_set k.turns (f % s.slots) None }
store s st k _ = k

abbrev pub stored_first : Setup → Stored
stored_first s = record { next = Some 1; slots = replicate s.slots None; asking = replicate s.agents None; thoughts = []; turns = replicate s.slots None }

abbrev pub stored_from : Setup → State → Stored → List Event → Stored
stored_from s st k [] = k
stored_from s st k (e ∷ es) = stored_from s (after s st e) (store s st k e) es

abbrev pub stored_after : Setup → List Event → Stored
stored_after s es = stored_from s (opening s) (stored_first s) es
