-- Which values of a board cross threads: one lemma a type, so that no search opens the types below.
use denote.Ref.{NamedLft}
use denote.Param.Send.{IsSend, sendable}
use Rattle.std.proofs.Crossing.{crosses}
use Rattle.job_scheduler.proofs.jobs.JobLog.TheSendSync.{the_send as job_scheduler}
use Rattle.frame_state.proofs.Crossing.{session}
use Rattle.task_board.proofs.ResultsCrossing.{frame_store}
use Rattle.task_board.specs.contracts.board.TaskBoard as TaskBoard

pub board : (κ : NamedLft) → IsSend (TaskBoard.the_row κ)
board κ = search (session, frame_store, job_scheduler, sendable, crosses) depth 40
