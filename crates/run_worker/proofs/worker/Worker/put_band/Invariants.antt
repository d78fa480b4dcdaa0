use Rattle.std.proofs.Common.{◌≡◌}
use Rattle.band_mail.specs.Mails.{IsPutterOf}
use Rattle.run_worker.proofs.worker.Worker.put_band.Given as goal

-- a full queue takes nothing, and hands the band back
abbrev pub invariant-loop : goal.invariant-loop
invariant-loop g l = IsPutterOf l.self.shared.now.mail l.putter × (l.putter ≡ l.initial.putter) × (l.band ≡ l.initial.band)
