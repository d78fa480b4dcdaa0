-- What the code tests before each event, of what the board keeps alone.
use Rattle.std.specs.Prelude.{◌≡◌, ◌≤◌, ◌<◌, ℕ, suc, ◌+◌, true, ◌==◌, Option, Some, None}
use Rattle.job_core.specs.declared.names.JobName.{JobName}
use Rattle.job_core.specs.declared.names.JobName.TheVariants.{Logic, Think}
use Rattle.job_core.specs.declared.names.Event.{Event}
use Rattle.job_core.specs.declared.names.Event.TheVariants.{Start, Resume, Ask, Spread, Hold, Finish, Emit, Stop}
use Rattle.job_core.specs.Core.{Setup, same, IsAtEnd, Draws, Shown}
use Rattle.board_model.specs.Lists.{tally, at, first_place, all}
use Rattle.board_model.specs.Board.{Core, Seats, Held, has_fiber, holds, first_row}

abbrev pub on_fiber : Seats → Option ℕ → Option Held
on_fiber t None = None
on_fiber t (Some f) = at t.jobs f

-- worker w runs job j, which has come to step k
abbrev pub RunsAt : Seats → ℕ → JobName → ℕ → Type 0
RunsAt t w j k = (x : Held) × (on_fiber t (at t.workers w) ≡ Some x) × (x.job ≡ j) × (x.step ≡ k)

abbrev pub IsFreeWorker : Setup → Core → ℕ → Type 0
IsFreeWorker s c w = (w < s.workers) × (at c.seats.workers w ≡ None)

abbrev pub Passes : Setup → Core → Event → Type 0
Passes s c (Start w j) = IsFreeWorker s c w × (0 < tally (same j) (all c.queues.fresh)) × (has_fiber c.seats j ≡ true)
Passes s c (Resume w j) = IsFreeWorker s c w × (0 < tally (holds j) c.seats.jobs) × (0 < tally (λ g. first_place (holds j) c.seats.jobs == g) (all c.queues.ready))
Passes s c (Spread w (Logic f)) = RunsAt c.seats w (Logic f) 0 × (f ≤ c.emitted + s.slots)
Passes s c (Hold w (Logic f)) = RunsAt c.seats w (Logic f) 0 × (c.emitted + s.slots < f)
Passes s c (Ask w (Think f a)) = (i : ℕ) × RunsAt c.seats w (Think f a) i × (i < s.questions f a)
Passes s c (Finish w j) = (k : ℕ) × RunsAt c.seats w j k × IsAtEnd s j k
Passes s c (Emit f) = (f ≡ suc c.emitted) × (f ≤ s.frames) × (first_row (Shown f) c.counters ≡ None → ⊥) × (tally (holds (Logic f)) c.seats.jobs ≡ 0) × (first_row (Draws f) c.counters ≡ None)
Passes s c Stop = Unit {0}
Passes s c _ = ⊥
