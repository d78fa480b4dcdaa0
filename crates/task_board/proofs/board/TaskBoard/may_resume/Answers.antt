use Rattle.std.proofs.Common.{◌≡◌, ◌==◌}
use Rattle.job_core.specs.declared.names.Event.TheVariants.{Resume}
use Rattle.job_core.specs.Core.{Waits, IsLegal}
use Rattle.board_model.specs.Lists.{first_place}
use Rattle.board_model.specs.Board.{holds}
use Rattle.job_queues.specs.Picks.{IsFirstAt}
use Rattle.job_scheduler.specs.Logged.{kept}
use Rattle.task_board.proofs.BoardEvents.{known, known_of}
use Rattle.task_board.proofs.board.TaskBoard.may_resume.Goals as goal

pub returns-in_default-clause-none : goal.returns-in_default-clause-none
returns-in_default-clause-none c = rw (← c.self.view_is) (λ e. known c.self.inside.session.now c.self.inside.jobs c.self.inside.frame_store c.self.invariant (λ s st. IsLegal s st (Resume c.args.worker c.args.job) → ⊥) (c.may_resume.ensures.none c.in_default.is))

pub returns-clause-some : goal.returns-clause-some
returns-clause-some c = rw (← c.self.view_is) (known c.self.inside.session.now c.self.inside.jobs c.self.inside.frame_store c.self.invariant (λ s st. IsLegal s st (Resume c.args.worker c.args.job)) (λ q l. (c.in-Some.ensures.some q l).0))

pub returns-clause-stands : goal.returns-clause-stands
returns-clause-stands c = rw (← c.self.view_is) (known c.self.inside.session.now c.self.inside.jobs c.self.inside.frame_store c.self.invariant (λ s st. st.phase c.args.job ≡ Waits c.in-Some.next.1.step) (λ q l. (c.in-Some.ensures.some q l).1))

pub returns-clause-holder : goal.returns-clause-holder
returns-clause-holder c = rw (← c.self.view_is) (known_of c.self.inside.session.now c.self.inside.jobs c.self.inside.frame_store c.self.invariant (λ v q. first_place (holds c.args.job) (kept v q).seats.jobs ≡ c.in-Some.next.0) (λ q l. c.in-Some.ensures.holder q))

pub returns-clause-place : goal.returns-clause-place
returns-clause-place c = rw (← c.self.view_is) (known_of c.self.inside.session.now c.self.inside.jobs c.self.inside.frame_store c.self.invariant (λ v q. IsFirstAt (λ other. c.in-Some.next.0 == other) (kept v q).queues.ready c.in-Some.next.2) (λ q l. c.in-Some.ensures.place q))
