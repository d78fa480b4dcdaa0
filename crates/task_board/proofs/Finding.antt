-- What a worker is found to do next may be taken up, and is taken by its event.
use Rattle.std.proofs.Common.{◌≡◌, ◌==◌, ℕ, Ok, Option, Some, option_map, refl, sym, subst, inl, inr}
use Rattle.game_rules.specs.Game.{Game}
use Rattle.job_core.specs.declared.names.JobName.{JobName}
use Rattle.job_core.specs.Core.{IsReady, IsLegalList, same}
use Rattle.job_core.specs.Priorities.{GoesFirst}
use Rattle.board_model.specs.Lists.{first_place}
use Rattle.board_model.specs.Board.{core_of, holds}
use Rattle.board_model.specs.Pick.{Ready, New, given}
use Rattle.board_model.proofs.Priorities.{new_is_first, resume_is_first}
use Rattle.frame_params.specs.Tasks.{IsTaskAt}
use Rattle.frame_params.specs.declared.task.Task.{Task}
use Rattle.job_queues.specs.Picks.{IsFirstAt}
use Rattle.job_scheduler.specs.Logged.{Logged, setup_of, kept}
use Rattle.job_scheduler.specs.Looks.{Always, IsGivenTo, IsPlace, as_pick}
use Rattle.job_scheduler.specs.declared.next.Next.{Next}
use Rattle.job_scheduler.specs.declared.next.Next.TheVariants as next
use Rattle.job_scheduler.specs.declared.board_fault.BoardFault.TheVariants.{OutOfMemory}
use Rattle.task_board.specs.FrameStore.{FrameStoreOf}
use Rattle.task_board.specs.Boards.{Played, setup_in, state_in, pick_in, Happens, IsBoard, IsTaken, IsTakeRefused}
use Rattle.task_board.specs.Found.{IsFound, event_of, job_next, step_next}
use Rattle.task_board.specs.Given.{MayBeTakenUp}
use Rattle.task_board.proofs.BoardEvents.{known, known_of, seen_as, starts, resumes}

module _ (g : Game) (jobs : Logged) (frame_store : FrameStoreOf) (k : IsBoard (seen_as g jobs) jobs frame_store) where
  -- what is picked goes first
  pub new_first : (j : JobName) → pick_in (seen_as g jobs) ≡ Some (New j) → GoesFirst (setup_in (seen_as g jobs)) (state_in (seen_as g jobs)) j
  new_first j is = (new_is_first (setup_in (seen_as g jobs)) jobs.events j k.within.a_slot k.lawful is).1

  pub ready_first : (fiber : ℕ) (j : JobName) → pick_in (seen_as g jobs) ≡ Some (Ready fiber)
      → first_place (holds j) (core_of (setup_in (seen_as g jobs)) jobs.events).seats.jobs ≡ fiber → IsReady (setup_in (seen_as g jobs)) (state_in (seen_as g jobs)) j
      → GoesFirst (setup_in (seen_as g jobs)) (state_in (seen_as g jobs)) j
  ready_first fiber j is holder ready = resume_is_first (setup_in (seen_as g jobs)) jobs.events fiber j k.within.a_slot k.lawful is holder ready

  of_next : (w : ℕ) (n : Next) → Always jobs (IsGivenTo w (Ok (Some n)))
      → ((q : ℕ → ℕ → ℕ) → IsLegalList (setup_of jobs q) jobs.events → option_map as_pick (Some n) ≡ given (kept jobs q))
      → ((q : ℕ → ℕ → ℕ) → IsLegalList (setup_of jobs q) jobs.events → IsPlace (kept jobs q) (Some n)) → IsFound (seen_as g jobs) w n
  of_next w (next.Start j at) told picked place =
      let is_picked = sym (known_of g jobs frame_store k (λ v q. Some (New j) ≡ given (kept v q)) picked) in
      record { legal = known g jobs frame_store k (IsGivenTo w (Ok (Some (next.Start j at)))) told; first = new_first j is_picked; picked = is_picked; queued = known_of g jobs frame_store k (λ v q. IsFirstAt (same j) (kept v q).queues.fresh at) place }
  of_next w (next.Resume fiber held at) told picked place =
      let is = known g jobs frame_store k (IsGivenTo w (Ok (Some (next.Resume fiber held at)))) told in
      let is_picked = sym (known_of g jobs frame_store k (λ v q. Some (Ready fiber) ≡ given (kept v q)) picked) in
      let holder = known_of g jobs frame_store k (λ v q. first_place (holds held.job) (kept v q).seats.jobs ≡ fiber) (λ q l. (place q l).0) in
      record { legal = is.0; stands = is.1; first = ready_first fiber held.job is_picked holder is.0.1.2; picked = is_picked; holder = holder; ready = known_of g jobs frame_store k (λ v q. IsFirstAt (λ other. fiber == other) (kept v q).queues.ready at) (λ q l. (place q l).1) }

  -- what the jobs give is found
  pub found : (w : ℕ) (o : Option Next) (n : Next) → o ≡ Some n → Always jobs (IsGivenTo w (Ok o))
      → ((q : ℕ → ℕ → ℕ) → IsLegalList (setup_of jobs q) jobs.events → option_map as_pick o ≡ given (kept jobs q))
      → ((q : ℕ → ℕ → ℕ) → IsLegalList (setup_of jobs q) jobs.events → IsPlace (kept jobs q) o) → IsFound (seen_as g jobs) w n
  found w o n is told picked place =
      of_next w n (subst (λ x. Always jobs (IsGivenTo w (Ok x))) is told)
      (subst (λ x. (q : ℕ → ℕ → ℕ) → IsLegalList (setup_of jobs q) jobs.events → option_map as_pick x ≡ given (kept jobs q)) is picked)
      (subst (λ x. (q : ℕ → ℕ → ℕ) → IsLegalList (setup_of jobs q) jobs.events → IsPlace (kept jobs q) x) is place)

pub may_be_taken_up : (b : Played) (w : ℕ) (n : Next) → IsFound b w n → MayBeTakenUp b (job_next n) (step_next n)
may_be_taken_up b w (next.Start j at) f = (w, inl (f.legal, refl))
may_be_taken_up b w (next.Resume fiber held at) f = (w, inr (f.legal, f.stands))

pub want_of_memory : (b : Played) (w : ℕ) (n : Next) → IsFound b w n → IsTakeRefused b w OutOfMemory
want_of_memory b w (next.Start j at) f = (j, inl f.legal)
want_of_memory b w (next.Resume fiber held at) f = (held.job, inr f.legal)

pub is_taken : (old new : Played) (w : ℕ) (n : Next) (task : Task) → IsFound old w n → IsTaskAt old.game (job_next n) (step_next n) task → Happens old new (event_of w n) → IsTaken old new w (Some task)
is_taken old new w (next.Start j at) task f t h = inl (starts old new w j at task f t h.logged)
is_taken old new w (next.Resume fiber held at) task f t h = inr (resumes old new w fiber held at task f t h.logged)
