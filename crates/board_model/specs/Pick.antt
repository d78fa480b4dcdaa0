-- What `pick` gives: of the highest priority that has one the first ready fiber, else the first new job that may start.
use Rattle.std.specs.Prelude.{ℕ, Bool, List, [], ◌∷◌, Option, Some, None, if◌then◌else◌}
use Rattle.job_core.specs.declared.names.JobName.{JobName}
use Rattle.board_model.specs.Board.{Queues, Core, has_fiber}

pub data Pick : Type 0 where
  Ready : (fiber : ℕ) → Pick
  New : (job : JobName) → Pick

abbrev pub first_new : (JobName → Bool) → List JobName → Option Pick → Option Pick
first_new may [] other = other
first_new may (j ∷ js) other = if may j then Some (New j) else first_new may js other

abbrev pub lane : (JobName → Bool) → List ℕ → List JobName → Option Pick → Option Pick
lane may [] fresh other = first_new may fresh other
lane may (f ∷ fs) fresh other = Some (Ready f)

abbrev pub pick : (JobName → Bool) → Queues → Option Pick
pick may q = lane may q.ready.high q.fresh.high (lane may q.ready.normal q.fresh.normal (lane may q.ready.low q.fresh.low None))

-- what an idle worker is given
abbrev pub given : Core → Option Pick
given c = pick (has_fiber c.seats) c.queues
