-- Something can be done until all frames are shown.
use Rattle.std.proofs.Common.{◌≡◌, false, refl, inl, inr, arith}
use Rattle.job_core.specs.declared.names.JobName.TheVariants.{Logic, Think}
use Rattle.job_core.specs.declared.names.Event.{Event}
use Rattle.job_core.specs.declared.names.Event.TheVariants.{Start, Resume, Ask, Spread, Hold, Finish, Emit, Stop}
use Rattle.job_core.specs.Core.{IsLegal}
use Rattle.job_core.proofs.Once.{legal_next}
use Rattle.job_scheduler.specs.Logged.{setup_of, reached}
use Rattle.frame_jobs.specs.Boards.{FrameBoard, IsOpen, MayHappen}
use Rattle.frame_jobs.specs.Going.{IsGoing}

module _ (b : FrameBoard) (k : IsOpen b) where
  may : (e : Event) → IsLegal (setup_of b.jobs k.questions) (reached b.jobs k.questions) e → MayHappen b e
  may e l = record { questions = k.questions; few = k.few; lawful = k.lawful; legal = l }

  by_event : (e : Event) → (e ≡ Stop → ⊥) → IsLegal (setup_of b.jobs k.questions) (reached b.jobs k.questions) e → IsGoing b k
  by_event (Start w j) n l = inr (Start w j, tt, may (Start w j) l)
  by_event (Resume w j) n l = inr (Resume w j, tt, may (Resume w j) l)
  by_event (Emit f) n l = inr (Emit f, tt, may (Emit f) l)
  by_event (Spread w (Logic f)) n l = inl (w, Logic f, 0, l.1.0)
  by_event (Hold w (Logic f)) n l = inl (w, Logic f, 0, l.1.0)
  by_event (Ask w (Think f a)) n l = inl (w, Think f a, l.1.0, l.1.1)
  by_event (Finish w j) n l = inl (w, j, l.1.0, l.1.1)
  by_event Stop n l = absurd (n refl)
  by_event _ n l = absurd l.1

  pub goes_on : (reached b.jobs k.questions).stopped ≡ false → ((reached b.jobs k.questions).emitted ≡ b.jobs.numbers.frames → ⊥) → IsGoing b k
  goes_on on more =
      let x = legal_next (setup_of b.jobs k.questions) b.jobs.events (let a = k.within.a_worker in omega arith) (let a = k.within.a_small in omega arith) (let a = k.within.two_large in omega arith) (let a = k.within.a_slot in omega arith) (k.lawful, on) (λ c. more c.2) in
      by_event x.0 x.1 x.2
