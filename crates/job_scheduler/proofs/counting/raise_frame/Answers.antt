use Rattle.std.proofs.Common.{◌∙◌}
use Rattle.job_core.specs.Core.{Thinks, Shown}
use Rattle.job_scheduler.proofs.Rows.{absent_raised, raise_undone}
use Rattle.job_scheduler.proofs.counting.raise_frame.Goals as goal

pub raise_awaited-requires : goal.raise_awaited-requires
raise_awaited-requires c = rw c.in_ok-raise.ensures.ok (absent_raised (Thinks c.args.frame) (Shown c.args.frame) 1 c.args.counters.now (λ e. cc) c.requires.thinks)

pub returns-in_default-clause-unchanged : goal.returns-in_default-clause-unchanged
returns-in_default-clause-unchanged c = c.cancel.ensures ∙ rw (c.in_default.ensures.unchanged, c.in_ok-raise.ensures.ok) (raise_undone (Shown c.args.frame) 1 c.args.counters.now c.requires.shown)
