use Rattle.trace_text.proofs.Ends.{in_turn}
use Rattle.trace_text.proofs.slice_laws.slices_of_a_job_are_in_turn.Goals as goal

pub returns : goal.returns
returns c = λ s events legal. in_turn s events legal
