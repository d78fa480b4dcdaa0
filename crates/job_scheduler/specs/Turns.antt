-- The last frame whose Logic is over.
use Rattle.std.specs.Prelude.{ℕ, List, [], ◌∷◌}
use Rattle.job_core.specs.declared.names.JobName.TheVariants.{Logic}
use Rattle.job_core.specs.declared.names.Event.{Event}
use Rattle.job_core.specs.declared.names.Event.TheVariants.{Finish}

abbrev pub turned_by : ℕ → Event → ℕ
turned_by frame (Finish w (Logic f)) = f
turned_by frame event = frame

-- after more events, where it was this one
abbrev pub turned_after : ℕ → List Event → ℕ
turned_after frame [] = frame
turned_after frame (event ∷ events) = turned_after (turned_by frame event) events
