-- Why a call is refused.
use Rattle.std.proofs.Common.{◌≡◌, ◌∙◌, ℕ, Err, Ok, sym, ap}
use Rattle.job_core.specs.declared.names.JobName.{JobName}
use Rattle.job_core.specs.declared.names.JobName.TheVariants.{Logic, Think, Path, Draw}
use Rattle.job_core.specs.declared.names.Event.{Event}
use Rattle.job_core.specs.declared.names.Event.TheVariants.{Finish}
use Rattle.job_core.specs.Core.{Phase, Runs}
use Rattle.board_model.specs.Board.{Held}
use Rattle.job_scheduler.specs.Logged.{reached}
use Rattle.job_scheduler.specs.Looks.{Always, IsRunning, IsGivenTo}
use Rattle.job_scheduler.specs.declared.board_fault.BoardFault.{BoardFault}
use Rattle.job_scheduler.specs.declared.board_fault.BoardFault.TheVariants.{Stopped, NoWorker, Busy, NotRunning, WrongResult, Illegal, OutOfMemory}
use Rattle.frame_jobs.specs.Boards.{FrameBoard, IsOpen, MayHappen, RunsNow, IsTurned, IsTakeRefused}

module _ (b : FrameBoard) (k : IsOpen b) where
  pub not_given : (w : ℕ) (fault : BoardFault) → Always b.jobs (IsGivenTo w (Err fault)) → IsTakeRefused b w fault
  not_given w Stopped a = a
  not_given w NoWorker a = a
  not_given w Busy a = a
  not_given w NotRunning a = a
  not_given w WrongResult a = a
  not_given w Illegal a = a
  not_given w OutOfMemory a = absurd (a k.questions k.lawful)

-- ---- what the job of a worker can't do

module _ (b : FrameBoard) (w : ℕ) (held : Held) (r : Always b.jobs (IsRunning w (Ok held))) where
  pub runs_now : RunsNow b w held
  runs_now q l = (r q l).1

  runs_at : (j : JobName) → held.job ≡ j → (e : Event) (m : MayHappen b e) → (reached b.jobs m.questions).phase j ≡ Runs w held.step
  runs_at j is e m = ap (reached b.jobs m.questions).phase (sym is) ∙ (r m.questions m.lawful).1

  step_is : (x : Phase) (n : ℕ) → x ≡ Runs w held.step → x ≡ Runs w n → held.step ≡ n
  step_is x n e d = let z : Runs w held.step ≡ Runs w n = sym e ∙ d in cc

  -- a Logic that hasn't turned isn't over
  pub ends_none : (j : JobName) → held.job ≡ j → (IsTurned j held.step → ⊥) → MayHappen b (Finish w j) → ⊥
  ends_none (Logic f) is turned m = turned (step_is ((reached b.jobs m.questions).phase (Logic f)) m.legal.1.0 (runs_at (Logic f) is (Finish w (Logic f)) m) m.legal.1.1 ∙ m.legal.1.2)
  ends_none (Think f a) is turned m = turned tt
  ends_none (Path f a i) is turned m = turned tt
  ends_none (Draw f n) is turned m = turned tt
