-- Which values of a board cross threads: one lemma a type, so that no search opens the types below.
use denote.Ref.{NamedLft}
use denote.Param.Send.{IsSend, sendable}
use Rattle.std.proofs.Crossing.{crosses}
use Rattle.frame_params.proofs.Crossing.{parked}
use Rattle.task_board.proofs.ResultsCrossing.{done_field}
use Rattle.task_board.proofs.Crossing.{board as tasks}
use Rattle.job_board.specs.contracts.work.Work as Work
use Rattle.job_board.specs.contracts.works.Works as Works
use Rattle.job_board.specs.contracts.board.Board as Board

work : (κ : NamedLft) → IsSend (Work.the_row κ)
work κ = search (done_field, parked, sendable, crosses) depth 60 fits 20000

-- as a field of another type
works_field : (κ : NamedLft) → IsSend (Works.the_field κ).row
works_field κ = search (work, sendable, crosses) depth 60 fits 20000

pub board : (κ : NamedLft) → IsSend (Board.the_row κ)
board κ = search (tasks, works_field, sendable, crosses) depth 60 fits 20000
