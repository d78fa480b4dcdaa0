use Rattle.trace_text.proofs.Apart.{apart}
use Rattle.trace_text.proofs.slice_laws.slices_of_a_worker_are_apart.Goals as goal

pub returns : goal.returns
returns c = λ events. apart 0 events
