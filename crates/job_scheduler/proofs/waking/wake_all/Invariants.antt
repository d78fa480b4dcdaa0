use Rattle.std.proofs.Common.{◌≡◌, ◌+◌, ◌-◌, ◌≤◌, length, drop}
use Rattle.board_model.specs.Lists.{all}
use Rattle.board_model.specs.Board.{wake}
use Rattle.job_queues.specs.Waiting.{with_ready}
use Rattle.job_scheduler.proofs.waking.wake_all.Given as goal

abbrev pub invariant-fibers : goal.invariant-fibers
invariant-fibers l = record {
  rest : with_ready l.queues (wake l.jobs l.queues.queues.ready (drop l.fiber-index l.fibers)) ≡ with_ready l.initial.queues (wake l.jobs l.initial.queues.queues.ready l.fibers);
  bound : l.fiber-index ≤ length l.fibers;
  room : length (all l.queues.queues.ready) + (length l.fibers - l.fiber-index) ≤ l.queues.fibers;
}
