-- What is handed in has its place in the frame store, and what is parked is stored by the step at which its Think runs.
use Rattle.std.proofs.Common.{◌≡◌, ◌≤◌, ℕ, false, Some, slice_set, sym, ap₂, ◌∙◌, arith}
use Rattle.job_core.specs.declared.names.JobName.TheVariants.{Think}
use Rattle.job_core.specs.declared.names.Event.TheVariants.{Ask, Finish}
use Rattle.job_core.specs.Core.{Setup, State, IsJob, step_of}
use Rattle.board_model.specs.Stored.{asked}
use Rattle.board_model.specs.Needed.{IsThere}
use Rattle.task_board.specs.FrameStore.{FrameStoreOf, Stores, IsWanted, IsBeforeLast, sizes}
use Rattle.task_board.specs.Dones.{job_done}
use Rattle.task_board.specs.declared.done.Done.{Done}
use Rattle.task_board.specs.declared.done.Done.TheVariants.{Turned, Thought, Way, Drawn}

pub parked_stores : (old new : FrameStoreOf) (st : State) (w f a i agent : ℕ) → agent ≡ a → step_of (st.phase (Think f a)) ≡ i
    → new ≡ record old { stored = record old.stored { asking = slice_set old.stored.asking agent (Some (asked f agent i false)) } } → Stores old new st (Ask w (Think f a))
parked_stores old new st w f a i agent e p s =
    s ∙ ap₂ {C = FrameStoreOf} (λ x y. record old { stored = record old.stored { asking = slice_set old.stored.asking x (Some (asked f x y false)) } }) e (sym p)

-- what a job came to has its place
pub wanted : (k : FrameStoreOf) (st : State) (w : ℕ) (done : Done) → IsThere (sizes k) st k.stored (Finish w (job_done done)) → IsWanted k done
wanted k st w (Turned t) h = h
wanted k st w (Thought t) h = h.1
wanted k st w (Way q) h = h
wanted k st w (Drawn b) h = tt

-- the frame of a run's job isn't the last that a number names
pub before_last : (s : Setup) (done : Done) → s.frames ≤ 9999 → IsJob s (job_done done) → IsBeforeLast done
before_last s (Turned t) l j = omega (arith, l, j.1)
before_last s (Thought t) l j = tt
before_last s (Way q) l j = tt
before_last s (Drawn b) l j = tt
