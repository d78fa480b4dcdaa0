use Rattle.std.proofs.Common.{◌≡◌, None, replicate}
use Rattle.job_board.proofs.works.Works.new.Given as goal

abbrev pub invariant-workers : goal.invariant-workers
invariant-workers l = l.places.items ≡ replicate l._made None
