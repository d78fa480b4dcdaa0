use Rattle.job_core.proofs.Worked.{held_complete, held_length}
use Rattle.job_core.proofs.worked_runs.a_logic_holds_for_its_slot.Goals as goal

pub returns : goal.returns
returns c = record { complete = held_complete; held = held_length.0; most = held_length.1 }
