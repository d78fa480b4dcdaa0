use Rattle.std.proofs.Common.{◌∙◌, sym, ap}
use Rattle.counters.specs.Keys.{counter_of}
use Rattle.counters.specs.Rows.{left_in}
use Rattle.counters.proofs.Changes.{none_there}
use Rattle.counters.proofs.board_counters.BoardCounters.left.Goals as goal

pub returns-in_err-at : goal.returns-in_err-at
returns-in_err-at c = rw (← c.self.view_is) (c.from_residual.ensures ∙ sym (ap left_in (none_there (counter_of c.args.key) c.deref.result.now c.self.inside.all.items c.deref.ensures.value c.in_err-at.ensures)))
