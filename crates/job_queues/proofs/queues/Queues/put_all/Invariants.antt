use Rattle.std.proofs.Common.{◌≡◌, ◌+◌, ◌-◌, ◌≤◌, ℕ, List, length, drop}
use Rattle.job_core.specs.declared.names.JobName.{JobName}
use Rattle.board_model.specs.Board.{put_all}
use Rattle.job_queues.specs.Waiting.{BoundedQueues, with_fresh}
use Rattle.job_queues.specs.declared.priority_queue.PriorityQueue.{PriorityQueue}
use Rattle.job_queues.specs.contracts.queues.Queues.{the_view}
use Rattle.job_queues.proofs.queues.Queues.put_all.Given as goal

-- the queues once these jobs are put, too
abbrev pub with_all : BoundedQueues → List JobName → BoundedQueues
with_all q jobs = with_fresh q (put_all q.queues.fresh jobs)

-- room for so many new jobs, and for each ready fiber
pub record HasRoom (fibers more : ℕ) (lane : PriorityQueue) : Type 0 where
  pub fresh : lane.fresh.used + more ≤ lane.fresh.room
  pub ready : fibers ≤ lane.ready.room

abbrev pub invariant-loop-job : goal.invariant-loop-job
invariant-loop-job l = record {
  rest : with_all (the_view l.self-inside) (drop l.job-index l.jobs) ≡ with_all (the_view l.initial.self-inside) l.jobs;
  bound : l.job-index ≤ length l.jobs;
  high : HasRoom l.self-inside.fibers (length l.jobs - l.job-index) l.self-inside.high;
  normal : HasRoom l.self-inside.fibers (length l.jobs - l.job-index) l.self-inside.normal;
  low : HasRoom l.self-inside.fibers (length l.jobs - l.job-index) l.self-inside.low;
}
