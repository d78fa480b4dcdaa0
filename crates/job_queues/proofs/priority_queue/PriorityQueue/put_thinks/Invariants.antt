use Rattle.std.proofs.Common.{◌≡◌, ◌+◌, ◌-◌, ◌≤◌, ◌++◌}
use Rattle.job_core.specs.declared.names.JobName.TheVariants.{Think}
use Rattle.board_model.specs.Board.{first}
use Rattle.job_queues.proofs.priority_queue.PriorityQueue.put_thinks.Given as goal

abbrev pub invariant-agents : goal.invariant-agents
invariant-agents l = record {
  named : l.self.fresh.items ≡ l.initial.self.fresh.items ++ first l.agent (Think l.frame);
  ready : l.self.ready ≡ l.initial.self.ready;
  bound : l.agent ≤ l.agents;
  room : l.self.fresh.used + (l.agents - l.agent) ≤ l.self.fresh.room;
}
