use Rattle.board_model.specs.Board.{has_key}
use Rattle.job_queues.proofs.Places.{first_place_found}
use Rattle.counters.specs.Keys.{counter_of}
use Rattle.counters.proofs.counters.place.Goals as goal

pub returns : goal.returns
returns c = rw c.position_of.ensures (first_place_found (has_key (counter_of c.args.key)) c.args.all.now)
