use Rattle.std.proofs.Common.{arith}
use Rattle.trace_text.proofs.Apart.{ordered, within}
use Rattle.trace_text.proofs.slice_laws.slices_stand_in_order.Goals as goal

pub returns-clause-order : goal.returns-clause-order
returns-clause-order c = λ events. ordered 0 events

pub returns-clause-within : goal.returns-clause-within
returns-clause-within c = λ events k d l. let h = within 0 events k d l in (h.0, omega (arith, h.1))
