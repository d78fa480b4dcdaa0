use Rattle.std.proofs.Common.{◌<◌, ◌^◌, length, arith}
use Rattle.board_model.specs.Board.{holds}
use Rattle.job_queues.proofs.Pools.{none_passes}
use Rattle.job_scheduler.specs.contracts.scheduler.Scheduler.{the_view}
use Rattle.job_scheduler.proofs.Entries.{holder_at}
use Rattle.job_scheduler.proofs.scheduler.Scheduler.holder.Goals as goal

pub returns-in_default : goal.returns-in_default
returns-in_default c = rw (← c.self.view_is) (none_passes (holds c.args.job) (the_view c.self.inside).seats.jobs c.in_default.ensures.value)

pub overflow_cast-result : goal.overflow_cast-result
overflow_cast-result c =
    let few : length (the_view c.self.inside).seats.jobs < 2 ^ 32 = rw (← c.self.view_is) at c.requires in
    omega (arith, few, c.in-Some.ensures.bound)

pub returns : goal.returns
returns c = rw (← c.self.view_is) (holder_at c.args.job (the_view c.self.inside).seats.jobs c.in-Some.fiber c.in-Some.ensures.value c.in-Some.ensures.bound)
