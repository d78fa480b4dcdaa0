-- The queues of a board on which nothing has happened.
use Rattle.std.specs.Prelude.{ℕ, nat_lt, if◌then◌else◌, [], ◌∷◌}
use Rattle.job_core.specs.declared.names.JobName.TheVariants.{Logic}
use Rattle.board_model.specs.Lists.{none}
use Rattle.board_model.specs.Board.{put_all}
use Rattle.job_queues.specs.Waiting.{BoundedQueues}

abbrev pub opened : (frames fibers : ℕ) → BoundedQueues
opened frames fibers =
    record {
      queues = record { fresh = put_all none (if nat_lt 0 frames then (Logic 1 ∷ []) else []); ready = none };
      fibers = fibers;
    }
