-- What is taken goes first, and where nothing is given nobody starts anything.
use Rattle.std.proofs.Common.{◌≡◌, ◌<◌, ℕ, false, Ok, Some, None, sym, inl, inr}
use Rattle.job_core.specs.declared.names.JobName.{JobName}
use Rattle.job_core.specs.Core.{IsLegalList}
use Rattle.job_core.specs.Priorities.{GoesFirst}
use Rattle.board_model.specs.Lists.{first_place}
use Rattle.board_model.specs.Board.{Held, holds}
use Rattle.board_model.specs.Pick.{Pick, Ready, New, given}
use Rattle.board_model.proofs.Needs.{none_given}
use Rattle.board_model.proofs.Priorities.{new_is_first, ready_is_first, resume_is_first}
use Rattle.job_scheduler.specs.Logged.{Logged, setup_of, kept}
use Rattle.job_scheduler.specs.Looks.{Always, IsGivenTo}
use Rattle.job_scheduler.specs.declared.next.Next.TheVariants as next
use Rattle.job_queues.specs.declared.queue_index.QueueIndex.{QueueIndex}
use Rattle.frame_jobs.specs.Boards.{FrameBoard, SomebodyStarts, NobodyStarts}

module _ (v : Logged) (some : 0 < v.numbers.slots) where
  pub new_first : (j : JobName) → ((q : ℕ → ℕ → ℕ) → IsLegalList (setup_of v q) v.events → Some (New j) ≡ given (kept v q)) → Always v (λ s st. GoesFirst s st j)
  new_first j picked q l = (new_is_first (setup_of v q) v.events j some l (sym (picked q l))).1

  pub ready_first : (w fiber : ℕ) (held : Held) (place : QueueIndex) → Always v (IsGivenTo w (Ok (Some (next.Resume fiber held place))))
      → ((q : ℕ → ℕ → ℕ) → IsLegalList (setup_of v q) v.events → Some (Ready fiber) ≡ given (kept v q))
      → ((q : ℕ → ℕ → ℕ) → IsLegalList (setup_of v q) v.events → first_place (holds held.job) (kept v q).seats.jobs ≡ fiber)
      → Always v (λ s st. GoesFirst s st held.job)
  ready_first w fiber held place told picked holder q l = resume_is_first (setup_of v q) v.events fiber held.job some l (sym (picked q l)) (holder q l) (told q l).0.1.2

module _ (b : FrameBoard) (some : 0 < b.jobs.numbers.slots) where
  pub somebody : (p : Pick) → ((q : ℕ → ℕ → ℕ) → Some p ≡ given (kept b.jobs q)) → Always b.jobs (λ s st. st.stopped ≡ false) → SomebodyStarts b
  somebody (New j) picked on q l =
      let first = new_is_first (setup_of b.jobs q) b.jobs.events j some l (sym (picked q)) in
      (on q l, λ w below idle. (j, inl (on q l, (below, idle, first.0.0, first.0.1))))
  somebody (Ready f) picked on q l =
      let first = ready_is_first (setup_of b.jobs q) b.jobs.events f some l (sym (picked q)) in
      (on q l, λ w below idle. (first.0.job, inr (on q l, (below, idle, first.2))))

  pub nobody : ((q : ℕ → ℕ → ℕ) → None ≡ given (kept b.jobs q)) → NobodyStarts b
  nobody none q l w j = (
    λ m. ((none_given (setup_of b.jobs q) b.jobs.events w some l m.0 m.1.0 m.1.1).0 (sym (none q)) j).0 m,
    λ m. ((none_given (setup_of b.jobs q) b.jobs.events w some l m.0 m.1.0 m.1.1).0 (sym (none q)) j).1 m,
  )
