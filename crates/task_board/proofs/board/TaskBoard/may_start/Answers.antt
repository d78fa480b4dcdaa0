use Rattle.job_core.specs.declared.names.Event.TheVariants.{Start}
use Rattle.job_core.specs.Core.{IsLegal, same}
use Rattle.job_queues.specs.Picks.{IsFirstAt}
use Rattle.job_scheduler.specs.Logged.{kept}
use Rattle.task_board.proofs.BoardEvents.{known, known_of}
use Rattle.task_board.proofs.board.TaskBoard.may_start.Goals as goal

pub returns-in_default-clause-none : goal.returns-in_default-clause-none
returns-in_default-clause-none c = rw (← c.self.view_is) (λ e. known c.self.inside.session.now c.self.inside.jobs c.self.inside.frame_store c.self.invariant (λ s st. IsLegal s st (Start c.args.worker c.args.job) → ⊥) (c.may_start.ensures.none c.in_default.is))

pub returns-clause-some : goal.returns-clause-some
returns-clause-some c = rw (← c.self.view_is) (known c.self.inside.session.now c.self.inside.jobs c.self.inside.frame_store c.self.invariant (λ s st. IsLegal s st (Start c.args.worker c.args.job)) c.in-Some.ensures.some)

pub returns-clause-place : goal.returns-clause-place
returns-clause-place c = rw (← c.self.view_is) (known_of c.self.inside.session.now c.self.inside.jobs c.self.inside.frame_store c.self.invariant (λ v q. IsFirstAt (same c.args.job) (kept v q).queues.fresh c.in-Some.place) (λ q l. c.in-Some.ensures.place q))
