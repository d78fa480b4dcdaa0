use Rattle.std.proofs.Common.{◌≡◌, ℕ, Ok, Err, Some, None, option_map, sym, ap, ◌∙◌, subst}
use Rattle.job_core.specs.declared.names.Event.TheVariants.{Start, Resume}
use Rattle.job_core.specs.Core.{IsIdle, IsLegal, IsLegalList}
use Rattle.job_core.specs.Priorities.{GoesFirst}
use Rattle.board_model.specs.Lists.{first_place}
use Rattle.board_model.specs.Board.{Held, core_of, holds}
use Rattle.board_model.specs.Pick.{Ready, New, given}
use Rattle.job_scheduler.specs.Logged.{setup_of, kept}
use Rattle.job_scheduler.specs.Looks.{Always, IsGivenTo, IsPlace, as_pick}
use Rattle.job_scheduler.specs.declared.next.Next.TheVariants as next
use Rattle.task_board.specs.Boards.{setup_in, state_in, pick_in}
use Rattle.task_board.specs.Given.{NobodyStarts}
use Rattle.task_board.proofs.BoardEvents.{known, known_of, seen_as}
use Rattle.task_board.proofs.Finding.{new_first, ready_first}
use Rattle.task_board.proofs.IdleWorkers.{not_refused, nobody_starts}
use Rattle.task_board.proofs.board.TaskBoard.next_given.Goals as goal

pub returns-in_default-given-clause-none : goal.returns-in_default-given-clause-none
returns-in_default-given-clause-none c =
    let on = rw (← c.self.view_is) at c.requires in
    let below = rw (← c.self.view_is) at c.in-Some.ensures.below in
    let idle = subst (λ p. IsIdle (state_in p) c.in-Some.worker) (sym c.self.view_is) c.in-Some.ensures.idle in
    λ e. absurd (not_refused (seen_as c.self.inside.session.now c.self.inside.jobs) c.in-Some.worker c.in_default-given.field-0 on below idle (known c.self.inside.session.now c.self.inside.jobs c.self.inside.frame_store c.self.invariant (IsGivenTo c.in-Some.worker (Err c.in_default-given.field-0)) c.in_default-given.ensures.given))

pub returns-in_default-given-2-clause-none : goal.returns-in_default-given-2-clause-none
returns-in_default-given-2-clause-none c =
    let on = rw (← c.self.view_is) at c.requires in
    let below = rw (← c.self.view_is) at c.in-Some.ensures.below in
    let idle = subst (λ p. IsIdle (state_in p) c.in-Some.worker) (sym c.self.view_is) c.in-Some.ensures.idle in
    let told = subst (λ o. Always c.self.inside.jobs (IsGivenTo c.in-Some.worker (Ok o))) c.in_default-given-2.is c.in-Ok.ensures.given in
    let none = known c.self.inside.session.now c.self.inside.jobs c.self.inside.frame_store c.self.invariant (IsGivenTo c.in-Some.worker (Ok None)) told in
    λ e. subst NobodyStarts c.self.view_is (nobody_starts (seen_as c.self.inside.session.now c.self.inside.jobs) c.in-Some.worker below idle none.2)

pub returns-in-Start-clause-legal : goal.returns-in-Start-clause-legal
returns-in-Start-clause-legal c =
    let is : c.in-Ok.given ≡ Some (next.Start c.in-Start.job c.in-Start.field-1) = c.in-Some-given.is ∙ ap Some c.in-Start.is in
    let told = subst (λ o. Always c.self.inside.jobs (IsGivenTo c.in-Some.worker (Ok o))) is c.in-Ok.ensures.given in
    subst (λ p. IsLegal (setup_in p) (state_in p) (Start c.in-Some.worker c.in-Start.job)) c.self.view_is (known c.self.inside.session.now c.self.inside.jobs c.self.inside.frame_store c.self.invariant (IsGivenTo c.in-Some.worker (Ok (Some (next.Start c.in-Start.job c.in-Start.field-1)))) told)

pub returns-in-Start-clause-given : goal.returns-in-Start-clause-given
returns-in-Start-clause-given c =
    let is : c.in-Ok.given ≡ Some (next.Start c.in-Start.job c.in-Start.field-1) = c.in-Some-given.is ∙ ap Some c.in-Start.is in
    let picked = subst (λ o. (q : ℕ → ℕ → ℕ) → IsLegalList (setup_of c.self.inside.jobs q) c.self.inside.jobs.events → option_map as_pick o ≡ given (kept c.self.inside.jobs q)) is c.in-Ok.ensures.picked in
    let found = sym (known_of c.self.inside.session.now c.self.inside.jobs c.self.inside.frame_store c.self.invariant (λ v q. Some (New c.in-Start.job) ≡ given (kept v q)) picked) in
    let first = new_first c.self.inside.session.now c.self.inside.jobs c.self.inside.frame_store c.self.invariant c.in-Start.job found in
    (c.in-Some.ensures.lowest, subst (λ p. GoesFirst (setup_in p) (state_in p) c.in-Start.job) c.self.view_is first, subst (λ p. pick_in p ≡ Some (New c.in-Start.job)) c.self.view_is found)

pub returns-in-Resume-clause-legal : goal.returns-in-Resume-clause-legal
returns-in-Resume-clause-legal c =
    let is : c.in-Ok.given ≡ Some (next.Resume c.in-Resume.field-0 c.in-Resume.held c.in-Resume.field-2) = c.in-Some-given.is ∙ ap Some c.in-Resume.is in
    let told = subst (λ o. Always c.self.inside.jobs (IsGivenTo c.in-Some.worker (Ok o))) is c.in-Ok.ensures.given in
    let job : c.held.inside.job ≡ c.in-Resume.held.job = ap (λ (h : Held). h.job) c.held.view_is in
    let legal = known c.self.inside.session.now c.self.inside.jobs c.self.inside.frame_store c.self.invariant (IsGivenTo c.in-Some.worker (Ok (Some (next.Resume c.in-Resume.field-0 c.in-Resume.held c.in-Resume.field-2)))) told in
    subst (λ p. IsLegal (setup_in p) (state_in p) (Resume c.in-Some.worker c.held.inside.job)) c.self.view_is
    (subst (λ j. IsLegal (setup_in (seen_as c.self.inside.session.now c.self.inside.jobs)) (state_in (seen_as c.self.inside.session.now c.self.inside.jobs)) (Resume c.in-Some.worker j)) (sym job) legal.0)

pub returns-in-Resume-clause-given : goal.returns-in-Resume-clause-given
returns-in-Resume-clause-given c =
    let is : c.in-Ok.given ≡ Some (next.Resume c.in-Resume.field-0 c.in-Resume.held c.in-Resume.field-2) = c.in-Some-given.is ∙ ap Some c.in-Resume.is in
    let picked = subst (λ o. (q : ℕ → ℕ → ℕ) → IsLegalList (setup_of c.self.inside.jobs q) c.self.inside.jobs.events → option_map as_pick o ≡ given (kept c.self.inside.jobs q)) is c.in-Ok.ensures.picked in
    let told = subst (λ o. Always c.self.inside.jobs (IsGivenTo c.in-Some.worker (Ok o))) is c.in-Ok.ensures.given in
    let place = subst (λ o. (q : ℕ → ℕ → ℕ) → IsLegalList (setup_of c.self.inside.jobs q) c.self.inside.jobs.events → IsPlace (kept c.self.inside.jobs q) o) is c.in-Ok.ensures.place in
    let job : c.held.inside.job ≡ c.in-Resume.held.job = ap (λ (h : Held). h.job) c.held.view_is in
    let b = seen_as c.self.inside.session.now c.self.inside.jobs in
    let found = sym (known_of c.self.inside.session.now c.self.inside.jobs c.self.inside.frame_store c.self.invariant (λ v q. Some (Ready c.in-Resume.field-0) ≡ given (kept v q)) picked) in
    let holder = known_of c.self.inside.session.now c.self.inside.jobs c.self.inside.frame_store c.self.invariant (λ v q. first_place (holds c.in-Resume.held.job) (kept v q).seats.jobs ≡ c.in-Resume.field-0) (λ q l. (place q l).0) in
    let given : pick_in b ≡ Some (Ready (first_place (holds c.held.inside.job) (core_of (setup_in b) b.events).seats.jobs)) =
    found ∙ (ap (λ x. Some (Ready x)) (sym holder) ∙ ap (λ j. Some (Ready (first_place (holds j) (core_of (setup_in b) b.events).seats.jobs))) (sym job)) in
    let legal = known c.self.inside.session.now c.self.inside.jobs c.self.inside.frame_store c.self.invariant (IsGivenTo c.in-Some.worker (Ok (Some (next.Resume c.in-Resume.field-0 c.in-Resume.held c.in-Resume.field-2)))) told in
    let goes_first = ready_first c.self.inside.session.now c.self.inside.jobs c.self.inside.frame_store c.self.invariant c.in-Resume.field-0 c.in-Resume.held.job found holder legal.0.1.2 in
    let first = subst (λ p. GoesFirst (setup_in p) (state_in p) c.held.inside.job) c.self.view_is (subst (GoesFirst (setup_in b) (state_in b)) (sym job) goes_first) in
    (c.in-Some.ensures.lowest, first, subst (λ p. pick_in p ≡ Some (Ready (first_place (holds c.held.inside.job) (core_of (setup_in p) p.events).seats.jobs))) c.self.view_is given)
