use Rattle.std.proofs.Common.{◌≡◌}
use Rattle.frame_params.specs.Leases.{IsLeaseOf}
use Rattle.run_worker.proofs.worker.Worker.wait_for_task.Given as goal

abbrev pub invariant-loop : goal.invariant-loop
invariant-loop g l = (l.share.parts ≡ l.initial.share.parts) × IsLeaseOf l.self.session.now l.lease
