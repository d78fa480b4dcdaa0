use Rattle.trace_text.proofs.Apart.{counted}
use Rattle.trace_text.proofs.slice_laws.each_begin_has_its_slice.Goals as goal

pub returns : goal.returns
returns c = λ events. counted 0 events
