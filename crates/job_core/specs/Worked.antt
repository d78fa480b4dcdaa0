-- Worked settings and runs: which events are legal, to the last fiber.
use Rattle.std.specs.Prelude.{ℕ, List, [], ◌∷◌}
use Rattle.job_core.specs.declared.names.JobName.TheVariants.{Logic, Think, Path, Draw}
use Rattle.job_core.specs.declared.names.Event.{Event}
use Rattle.job_core.specs.declared.names.Event.TheVariants.{Start, Resume, Ask, Spread, Hold, Finish, Emit}
use Rattle.job_core.specs.Core.{Setup}

-- each agent asks once in each frame
unfoldable pub setup_of : (frames agents bands workers small large slots : ℕ) → Setup
setup_of frames agents bands workers small large slots =
    record { frames = frames; agents = agents; bands = bands; questions = λ f a. 1; workers = workers; small = small; large = large; slots = slots }

unfoldable pub lone : Setup
lone = setup_of 1 1 1 1 1 2 1

unfoldable pub one_slot : Setup
one_slot = setup_of 2 1 1 1 1 2 1

unfoldable pub two_slots : Setup
two_slots = setup_of 2 1 1 1 1 2 2

unfoldable pub two_agents : (large : ℕ) → Setup
two_agents large = setup_of 1 2 1 1 1 large 1

unfoldable pub no_agents : (small : ℕ) → Setup
no_agents small = setup_of 2 0 2 3 small 2 2

unfoldable pub two_workers : Setup
two_workers = setup_of 1 2 2 2 2 3 1

-- ---- runs

-- one frame of one agent and one band, by one worker
unfoldable pub one_frame : List Event
one_frame =
    Start 0 (Logic 1) ∷ Spread 0 (Logic 1) ∷ Start 0 (Think 1 0) ∷ Ask 0 (Think 1 0) ∷ Start 0 (Path 1 0 0) ∷ Finish 0 (Path 1 0 0)
    ∷ Resume 0 (Think 1 0) ∷ Finish 0 (Think 1 0) ∷ Resume 0 (Logic 1) ∷ Finish 0 (Logic 1) ∷ Start 0 (Draw 1 0) ∷ Finish 0 (Draw 1 0) ∷ Emit 1 ∷ []

-- two frames with one slot: the second Logic holds until the first frame is emitted
unfoldable pub held_once : List Event
held_once =
    Start 0 (Logic 1) ∷ Spread 0 (Logic 1) ∷ Start 0 (Think 1 0) ∷ Ask 0 (Think 1 0) ∷ Start 0 (Path 1 0 0) ∷ Finish 0 (Path 1 0 0)
    ∷ Resume 0 (Think 1 0) ∷ Finish 0 (Think 1 0) ∷ Resume 0 (Logic 1) ∷ Finish 0 (Logic 1) ∷ Start 0 (Logic 2) ∷ Hold 0 (Logic 2)
    ∷ Start 0 (Draw 1 0) ∷ Finish 0 (Draw 1 0) ∷ Emit 1 ∷ Resume 0 (Logic 2) ∷ Spread 0 (Logic 2) ∷ Start 0 (Think 2 0) ∷ Ask 0 (Think 2 0)
    ∷ Start 0 (Path 2 0 0) ∷ Finish 0 (Path 2 0 0) ∷ Resume 0 (Think 2 0) ∷ Finish 0 (Think 2 0) ∷ Resume 0 (Logic 2) ∷ Finish 0 (Logic 2)
    ∷ Start 0 (Draw 2 0) ∷ Finish 0 (Draw 2 0) ∷ Emit 2 ∷ []

-- the first frame isn't drawn yet, and of the second a Think waits for its Path
unfoldable pub second_begun : List Event
second_begun =
    Start 0 (Logic 1) ∷ Spread 0 (Logic 1) ∷ Start 0 (Think 1 0) ∷ Ask 0 (Think 1 0) ∷ Start 0 (Path 1 0 0) ∷ Finish 0 (Path 1 0 0)
    ∷ Resume 0 (Think 1 0) ∷ Finish 0 (Think 1 0) ∷ Resume 0 (Logic 1) ∷ Finish 0 (Logic 1) ∷ Start 0 (Logic 2) ∷ Spread 0 (Logic 2)
    ∷ Start 0 (Think 2 0) ∷ Ask 0 (Think 2 0) ∷ []

-- the first frame is drawn and shown before the second goes on
unfoldable pub second_ended : List Event
second_ended =
    Start 0 (Draw 1 0) ∷ Finish 0 (Draw 1 0) ∷ Start 0 (Path 2 0 0) ∷ Finish 0 (Path 2 0 0) ∷ Emit 1 ∷ Resume 0 (Think 2 0) ∷ Finish 0 (Think 2 0)
    ∷ Resume 0 (Logic 2) ∷ Finish 0 (Logic 2) ∷ Start 0 (Draw 2 0) ∷ Finish 0 (Draw 2 0) ∷ Emit 2 ∷ []

-- a Logic has spread
unfoldable pub spread_once : List Event
spread_once = Start 0 (Logic 1) ∷ Spread 0 (Logic 1) ∷ []

-- and the first Think waits for its Path
unfoldable pub asked_once : List Event
asked_once = Start 0 (Logic 1) ∷ Spread 0 (Logic 1) ∷ Start 0 (Think 1 0) ∷ Ask 0 (Think 1 0) ∷ []

-- a Logic with no thinks is over, and one of its draws has begun
unfoldable pub one_drawn : List Event
one_drawn = Start 0 (Logic 1) ∷ Spread 0 (Logic 1) ∷ Resume 0 (Logic 1) ∷ Finish 0 (Logic 1) ∷ Start 0 (Draw 1 0) ∷ []

-- one frame of two agents and two bands by two workers: jobs start in any order, two at once, and go on with another worker
unfoldable pub shared : List Event
shared =
    Start 0 (Logic 1) ∷ Spread 0 (Logic 1) ∷ Start 0 (Think 1 1) ∷ Start 1 (Think 1 0) ∷ Ask 1 (Think 1 0) ∷ Ask 0 (Think 1 1)
    ∷ Start 0 (Path 1 0 0) ∷ Finish 0 (Path 1 0 0) ∷ Start 1 (Path 1 1 0) ∷ Resume 0 (Think 1 0) ∷ Finish 1 (Path 1 1 0) ∷ Finish 0 (Think 1 0)
    ∷ Resume 0 (Think 1 1) ∷ Finish 0 (Think 1 1) ∷ Resume 1 (Logic 1) ∷ Finish 1 (Logic 1)
    ∷ Start 1 (Draw 1 1) ∷ Start 0 (Draw 1 0) ∷ Finish 0 (Draw 1 0) ∷ Finish 1 (Draw 1 1) ∷ Emit 1 ∷ []
