use Rattle.std.proofs.Common.{◌≡◌, ◌+◌, ◌-◌, ◌≤◌, ◌++◌}
use Rattle.job_core.specs.declared.names.JobName.TheVariants.{Draw}
use Rattle.board_model.specs.Board.{first}
use Rattle.job_queues.proofs.priority_queue.PriorityQueue.put_draws.Given as goal

abbrev pub invariant-bands : goal.invariant-bands
invariant-bands l = record {
  named : l.self.fresh.items ≡ l.initial.self.fresh.items ++ first l.band (Draw l.frame);
  ready : l.self.ready ≡ l.initial.self.ready;
  bound : l.band ≤ l.bands;
  room : l.self.fresh.used + (l.bands - l.band) ≤ l.self.fresh.room;
}
