-- What is kept along small logs, computed.
use Rattle.std.proofs.Common.{◌≡◌, true, false, List, [], ◌∷◌, Some, None, take, refl}
use Rattle.job_core.specs.declared.names.JobName.TheVariants.{Logic, Think, Path, Draw}
use Rattle.job_core.specs.declared.names.Event.{Event}
use Rattle.job_core.specs.declared.names.Event.TheVariants.{Start, Resume, Ask, Spread, Hold, Finish, Emit}
use Rattle.job_core.specs.Worked.{setup_of, one_slot, held_once}
use Rattle.job_core.specs.Core.{Setup, Thinks, Way, Shown}
use Rattle.board_model.specs.Board.{core_of}
use Rattle.board_model.specs.Stored.{part, asked, stored_after}

-- three agents that ask nothing, and end in another order than that of their numbers
abbrev crowd : Setup
crowd = record { frames = 1; agents = 3; bands = 1; questions = λ f a. 0; workers = 1; small = 8; large = 8; slots = 3 }

abbrev unordered : List Event
unordered =
    Start 0 (Logic 1) ∷ Spread 0 (Logic 1) ∷ Start 0 (Think 1 1) ∷ Finish 0 (Think 1 1) ∷ Start 0 (Think 1 2) ∷ Finish 0 (Think 1 2)
    ∷ Start 0 (Think 1 0) ∷ Finish 0 (Think 1 0) ∷ []

-- at the end of a whole run (two frames, one slot, one Hold) nothing is kept
ends_empty : ((core_of one_slot held_once).counters ≡ []) × ((core_of one_slot held_once).slots ≡ None ∷ []) × ((core_of one_slot held_once).seats.taken ≡ false ∷ false ∷ false ∷ []) × ((core_of one_slot held_once).emitted ≡ 2) × ((core_of one_slot held_once).queues.ready.high ≡ [])
unfolding setup_of one_slot held_once
ends_empty = (refl, refl, refl, refl, refl)

-- a Think that asks stands on the wait list of its question
asks : (core_of one_slot (Start 0 (Logic 1) ∷ Spread 0 (Logic 1) ∷ Start 0 (Think 1 0) ∷ Ask 0 (Think 1 0) ∷ [])).counters
    ≡ (record { key = Shown 1; left = 1; waiters = [] }) ∷ (record { key = Thinks 1; left = 1; waiters = 1 ∷ [] }) ∷ (record { key = Way 1 0 0; left = 1; waiters = 2 ∷ [] }) ∷ []
unfolding setup_of one_slot
asks = refl

-- the path's end makes its fiber ready
wakes : ((core_of one_slot (Start 0 (Logic 1) ∷ Spread 0 (Logic 1) ∷ Start 0 (Think 1 0) ∷ Ask 0 (Think 1 0) ∷ Start 0 (Path 1 0 0) ∷ Finish 0 (Path 1 0 0) ∷ [])).queues.ready.normal ≡ 2 ∷ [])
unfolding setup_of one_slot
wakes = refl

-- with no agents a Logic that spreads is ready at once
empty_level : (core_of (record { frames = 1; agents = 0; bands = 1; questions = λ f a. 0; workers = 1; small = 1; large = 2; slots = 1 }) (Start 0 (Logic 1) ∷ Spread 0 (Logic 1) ∷ [])).queues.ready.high ≡ 1 ∷ []
empty_level = refl

-- ---- what is stored along the whole run

-- the answer to the first question
stores_the_way : stored_after one_slot (take 6 held_once) ≡ record { next = None; slots = Some 1 ∷ []; asking = Some (asked 1 0 0 true) ∷ []; thoughts = []; turns = None ∷ [] }
unfolding setup_of one_slot held_once
stores_the_way = refl

-- the thought, once it has ended
stores_the_thought : (stored_after one_slot (take 8 held_once)).thoughts ≡ part 1 0 ∷ []
unfolding setup_of one_slot held_once
stores_the_thought = refl

-- while the second Logic holds: its parameters, and the first frame's slot and turn; the thought went with its Logic
stores_the_turn : stored_after one_slot (take 12 held_once) ≡ record { next = Some 2; slots = Some 1 ∷ []; asking = Some (asked 1 0 0 true) ∷ []; thoughts = []; turns = Some 1 ∷ [] }
unfolding setup_of one_slot held_once
stores_the_turn = refl

-- at the end its slot is free
frees_the_slot : ((stored_after one_slot held_once).slots ≡ None ∷ []) × ((stored_after one_slot held_once).turns ≡ None ∷ [])
unfolding setup_of one_slot held_once
frees_the_slot = (refl, refl)

-- thoughts are kept by agent, whatever order they end in
by_agent : (stored_after crowd unordered).thoughts ≡ part 1 0 ∷ part 1 1 ∷ part 1 2 ∷ []
by_agent = refl
