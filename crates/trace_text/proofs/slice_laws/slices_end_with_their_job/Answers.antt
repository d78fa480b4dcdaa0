use Rattle.trace_text.proofs.Ends.{ended}
use Rattle.trace_text.proofs.slice_laws.slices_end_with_their_job.Goals as goal

pub returns : goal.returns
returns c = λ s events legal. ended s events legal
