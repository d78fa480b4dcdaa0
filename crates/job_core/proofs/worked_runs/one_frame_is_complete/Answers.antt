use Rattle.job_core.proofs.Worked.{one_frame_complete, one_frame_length}
use Rattle.job_core.proofs.worked_runs.one_frame_is_complete.Goals as goal

pub returns : goal.returns
returns c = record { complete = one_frame_complete; length = one_frame_length.0; most = one_frame_length.1 }
