use Rattle.std.proofs.Common.{◌≡◌, ◌≤◌, length}
use Rattle.band_mail.specs.Mails.{IsPutterOf}
use Rattle.frame_params.specs.Leases.{IsLeaseOf}
use Rattle.run_worker.proofs.worker.Worker.work_on.Given as goal

abbrev pub invariant-loop : goal.invariant-loop
invariant-loop g l =
    IsPutterOf l.self.shared.now.mail l.putter × (l.putter.worker ≡ l.initial.putter.worker) × (l.share.parts ≡ l.initial.share.parts)
    × (l.draws.parts ≡ l.initial.draws.parts) × (length l.putter.put ≤ l.draws.amount) × IsLeaseOf l.self.session.now l.lease
