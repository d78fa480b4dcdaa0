-- Which events end a Draw.
use Rattle.std.specs.Prelude.{Bool, true, false}
use Rattle.job_core.specs.declared.names.JobName.TheVariants.{Draw}
use Rattle.job_core.specs.declared.names.Event.{Event}
use Rattle.job_core.specs.declared.names.Event.TheVariants.{Finish}

abbrev pub ends_draw : Event → Bool
ends_draw (Finish w (Draw f b)) = true
ends_draw event = false
