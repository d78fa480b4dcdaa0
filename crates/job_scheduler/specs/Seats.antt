-- A worker's fiber, with the job that it holds from now on.
use Rattle.std.specs.Prelude.{◌≡◌, ◌<◌, ℕ, List, length, Option, None}
use Rattle.job_core.specs.declared.names.JobName.{JobName}
use Rattle.job_core.specs.Core.{Counter}
use Rattle.board_model.specs.Lists.{write, tally, first_place}
use Rattle.board_model.specs.Board.{Core, Held, runner, runs_on, seat, wake, woken, lower, holds}

abbrev pub holding : Core → ℕ → ℕ → Option Held → Core
holding c worker fiber held =
    record c {
      seats = record {
        small = c.seats.small;
        taken = c.seats.taken;
        jobs = write c.seats.jobs fiber held;
        workers = write c.seats.workers worker (runs_on fiber (runner held));
      };
    }

-- a worker leaves its fiber, which is free then
abbrev pub left_by : Core → ℕ → ℕ → Core
left_by c worker fiber = record c { seats = seat c.seats worker fiber None }

-- a counter is lowered, and at 0 its waiters are ready
abbrev pub less_one : Core → Counter → Core
less_one c k =
    record c {
      queues = record { fresh = c.queues.fresh; ready = wake c.seats.jobs c.queues.ready (woken k c.counters) };
      counters = lower k c.counters;
    }

-- the fiber is the first that holds the job
pub record IsHolder (job : JobName) (jobs : List (Option Held)) (fiber : ℕ) : Type 0 where
  pub first : first_place (holds job) jobs ≡ fiber
  pub there : 0 < tally (holds job) jobs
  pub bound : fiber < length jobs
