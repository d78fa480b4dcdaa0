use Rattle.std.proofs.Common.{◌<◌, refl, sym, ap, ◌∙◌, arith}
use Rattle.board_model.specs.Board.{wait}
use Rattle.counters.specs.Keys.{counter_of}
use Rattle.counters.specs.Rows.{started}
use Rattle.counters.proofs.Changes.{on_ok}
use Rattle.counters.proofs.Pairs.{wait_last}
use Rattle.job_scheduler.proofs.Rows.{raised_none, raise_is}
use Rattle.job_scheduler.proofs.counting.raise_awaited.Goals as goal

pub returns-then-number-eq0-clause-ok : goal.returns-then-number-eq0-clause-ok
returns-then-number-eq0-clause-ok c = rw c.if-number-eq0.true (raised_none (counter_of c.args.key) c.args.fiber c.args.counters.now c.requires)

pub returns-clause-ok : goal.returns-clause-ok
returns-clause-ok c =
    let above : 0 < c.args.number = omega arith in
    on_ok c.start_awaited.result c.if-is_err.ensures.negation c.start_awaited.ensures.started ∙ (sym (wait_last (counter_of c.args.key) (started (counter_of c.args.key) c.args.number) refl c.args.fiber c.args.counters.now c.requires)
    ∙ ap (wait (counter_of c.args.key) c.args.fiber) (raise_is (counter_of c.args.key) c.args.number c.args.counters.now above))
