-- A run that can't go on.
use Rattle.std.specs.Prelude.{◌≡◌, ◌≤◌, ◌<◌, List}
use Rattle.job_core.specs.declared.names.Event.{Event}
use Rattle.job_core.specs.declared.names.Event.TheVariants.{Stop}
use Rattle.job_core.specs.Core.{Setup, IsLegal, IsRun, state}

-- under these settings it is a legal list without a Stop, and nothing but a Stop is legal after it
pub record IsStuckRun (s : Setup) (events : List Event) : Type 0 where
  pub a_worker : 0 < s.workers
  pub a_small : 0 < s.small
  pub two_large : 2 ≤ s.large
  pub a_slot : 0 < s.slots
  pub run : IsRun s events
  pub stuck : (event : Event) → IsLegal s (state s events) event → event ≡ Stop
