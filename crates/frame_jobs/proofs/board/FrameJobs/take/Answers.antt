use Rattle.std.proofs.Common.{◌≡◌, ◌<◌, ℕ, Option, option_map, inr, arith, Ok, Some, sym, ap, ◌∙◌, subst}
use Rattle.board_model.specs.Board.{Held}
use Rattle.job_core.specs.declared.names.Event.TheVariants.{Start, Resume}
use Rattle.job_core.specs.Core.{IsLegalList}
use Rattle.job_core.specs.Priorities.{GoesFirst}
use Rattle.board_model.specs.Pick.{given}
use Rattle.job_scheduler.specs.Logged.{setup_of, kept}
use Rattle.job_scheduler.specs.declared.next.Next.{Next}
use Rattle.job_scheduler.specs.Looks.{Always, IsGivenTo, IsPlace, as_pick}
use Rattle.frame_jobs.specs.Boards.{MayHappen}
use Rattle.frame_jobs.specs.contracts.board.FrameJobs.{the_view}
use Rattle.frame_jobs.proofs.BoardEvents.{always, after_of}
use Rattle.frame_jobs.proofs.Refusing.{not_given}
use Rattle.frame_jobs.proofs.Taking.{new_first, ready_first}
use Rattle.frame_jobs.proofs.board.FrameJobs.take.Goals as goal

pub invariant_of-self-in-Start : goal.invariant_of-self-in-Start
invariant_of-self-in-Start c =
    after_of (the_view c.self.inside) (Start c.args.worker c.in-Start.job) c.self.invariant
    (always (the_view c.self.inside) (Start c.args.worker c.in-Start.job) c.self.invariant (subst (λ o. Always c.self.inside.jobs (IsGivenTo c.args.worker (Ok o))) (c.in-Some.is ∙ ap Some c.in-Start.is) c.in-Ok.ensures.given))
    c.start.new.self c.in-Ok-start.ensures.ok

pub invariant_of-self-in-Resume : goal.invariant_of-self-in-Resume
invariant_of-self-in-Resume c =
    after_of (the_view c.self.inside) (Resume c.args.worker c.held.inside.job) c.self.invariant
    (subst (λ (h : Held). MayHappen (the_view c.self.inside) (Resume c.args.worker h.job)) (sym c.held.view_is)
    (always (the_view c.self.inside) (Resume c.args.worker c.in-Resume.held.job) c.self.invariant
    (λ q l. (subst (λ o. Always c.self.inside.jobs (IsGivenTo c.args.worker (Ok o))) (c.in-Some.is ∙ ap Some c.in-Resume.is) c.in-Ok.ensures.given q l).0)))
    c.resume.new.self c.in-Ok-resume.ensures.ok

pub returns-in-Err-clause-refused : goal.returns-in-Err-clause-refused
returns-in-Err-clause-refused c = rw (← c.self.view_is) (not_given (the_view c.self.inside) c.self.invariant c.args.worker c.in-Err.fault c.in-Err.ensures.given)

pub returns-in_default-resume-clause-refused : goal.returns-in_default-resume-clause-refused
returns-in_default-resume-clause-refused c =
    rw (← c.self.view_is) (
      c.in-Resume.held.job,
      inr
          (always (the_view c.self.inside) (Resume c.args.worker c.in-Resume.held.job) c.self.invariant
          (λ q l. (subst (λ o. Always c.self.inside.jobs (IsGivenTo c.args.worker (Ok o))) (c.in-Some.is ∙ ap Some c.in-Resume.is) c.in-Ok.ensures.given q l).0)),
    )

pub returns-in-Ok-start-clause-first : goal.returns-in-Ok-start-clause-first
returns-in-Ok-start-clause-first c =
    let some : 0 < c.self.inside.jobs.numbers.slots = omega (arith, c.self.invariant.within.a_slot) in
    rw (← c.self.view_is)
    (new_first c.self.inside.jobs some c.in-Start.job
    (subst (λ (o : Option Next). (q : ℕ → ℕ → ℕ) → IsLegalList (setup_of c.self.inside.jobs q) c.self.inside.jobs.events → option_map as_pick o ≡ given (kept c.self.inside.jobs q)) (c.in-Some.is ∙ ap Some c.in-Start.is) c.in-Ok.ensures.picked))

pub returns-in-Ok-resume-clause-first : goal.returns-in-Ok-resume-clause-first
returns-in-Ok-resume-clause-first c =
    let some : 0 < c.self.inside.jobs.numbers.slots = omega (arith, c.self.invariant.within.a_slot) in
    let is = c.in-Some.is ∙ ap Some c.in-Resume.is in
    let place = subst (λ (o : Option Next). (q : ℕ → ℕ → ℕ) → IsLegalList (setup_of c.self.inside.jobs q) c.self.inside.jobs.events → IsPlace (kept c.self.inside.jobs q) o) is c.in-Ok.ensures.place in
    rw (← c.self.view_is)
    (subst (λ (h : Held). Always c.self.inside.jobs (λ s st. GoesFirst s st h.job)) (sym c.held.view_is)
    (ready_first c.self.inside.jobs some c.args.worker c.in-Resume.fiber c.in-Resume.held c.in-Resume.place
    (subst (λ o. Always c.self.inside.jobs (IsGivenTo c.args.worker (Ok o))) is c.in-Ok.ensures.given)
    (subst (λ (o : Option Next). (q : ℕ → ℕ → ℕ) → IsLegalList (setup_of c.self.inside.jobs q) c.self.inside.jobs.events → option_map as_pick o ≡ given (kept c.self.inside.jobs q)) is c.in-Ok.ensures.picked)
    (λ q l. (place q l).0)))
