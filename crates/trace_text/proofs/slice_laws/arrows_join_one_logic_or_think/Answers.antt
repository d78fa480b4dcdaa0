use Rattle.trace_text.proofs.Joined.{one_logic_or_think}
use Rattle.trace_text.proofs.slice_laws.arrows_join_one_logic_or_think.Goals as goal

pub returns : goal.returns
returns c = one_logic_or_think
