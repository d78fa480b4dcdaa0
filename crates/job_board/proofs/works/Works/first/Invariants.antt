use Rattle.job_board.specs.Works.{AreNone}
use Rattle.job_board.proofs.works.Works.first.Given as goal

abbrev pub invariant-workers : goal.invariant-workers
invariant-workers l = AreNone l.self.places.items l.worker
