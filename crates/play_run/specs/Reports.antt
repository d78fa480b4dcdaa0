-- What is counted of each worker.
use Rattle.std.specs.Prelude.{◌≡◌, ◌<◌, ◌==◌, ℕ, Bool, false, List, length, count_by, slice_index}
use Rattle.job_core.specs.declared.names.JobName.TheVariants.{Draw}
use Rattle.job_core.specs.declared.names.Event.{Event}
use Rattle.job_core.specs.declared.names.Event.TheVariants.{Finish}
use Rattle.run_shared.specs.Counts.{names}
use Rattle.play_run.specs.declared.counted.Counted.{Counted}
use Rattle.play_run.specs.declared.counted.Counted.TheVariants.{Steps, Bands}

-- it ends a Draw of this worker
abbrev pub ends_draw_of : ℕ → Event → Bool
ends_draw_of worker (Finish w (Draw f b)) = w == worker
ends_draw_of worker event = false

-- whether an event counts for a worker
abbrev pub counts_for : Counted → ℕ → Event → Bool
counts_for Steps = names
counts_for Bands = ends_draw_of

-- for each worker as many as the events that count for it
abbrev pub AreCountsOf : (counts : ℕ → Event → Bool) → (workers : ℕ) → List Event → List ℕ → Type 0
AreCountsOf counts workers events numbers = (length numbers ≡ workers) × ((w : ℕ) → w < workers → slice_index numbers w ≡ count_by (counts w) events)

-- how many events name each worker
abbrev pub AreStepsOf : (workers : ℕ) → List Event → List ℕ → Type 0
AreStepsOf workers events steps = AreCountsOf names workers events steps

-- how many Draws each worker ended
abbrev pub AreBandsOf : (workers : ℕ) → List Event → List ℕ → Type 0
AreBandsOf workers events bands = AreCountsOf ends_draw_of workers events bands
