use Rattle.std.proofs.Common.{refl, sym, subst}
use Rattle.board_model.specs.Board.{Held}
use Rattle.job_core.specs.declared.names.Event.TheVariants.{Finish}
use Rattle.job_scheduler.proofs.Tests.{is_not}
use Rattle.frame_jobs.specs.Boards.{MayHappen, IsTurned}
use Rattle.frame_jobs.specs.contracts.board.FrameJobs.{the_view}
use Rattle.frame_jobs.proofs.BoardEvents.{finishes, next_of, after_of, happens}
use Rattle.frame_jobs.proofs.Refusing.{runs_now, ends_none}
use Rattle.frame_jobs.proofs.board.FrameJobs.finish.Goals as goal

pub finish-requires : goal.finish-requires
finish-requires c =
    next_of (the_view c.self.inside) _
    (subst (λ (h : Held). MayHappen (the_view c.self.inside) (Finish c.args.worker h.job)) (sym c.held.view_is)
    (finishes (the_view c.self.inside) c.self.invariant c.args.worker c.in_ok-held.held c.in_ok-held.ensures (c.is_turned.ensures.0 c.if-not-is_turned.false)))

pub invariant_of-self-2 : goal.invariant_of-self-2
invariant_of-self-2 c =
    after_of (the_view c.self.inside) (Finish c.args.worker c.held.inside.job) c.self.invariant
    (subst (λ (h : Held). MayHappen (the_view c.self.inside) (Finish c.args.worker h.job)) (sym c.held.view_is)
    (finishes (the_view c.self.inside) c.self.invariant c.args.worker c.in_ok-held.held c.in_ok-held.ensures (c.is_turned.ensures.0 c.if-not-is_turned.false)))
    c.finish.new.self c.in-Ok.ensures.ok

pub returns-clause-ok : goal.returns-clause-ok
returns-clause-ok c =
    rw (← c.self.view_is) (happens (the_view c.self.inside) (Finish c.args.worker c.held.inside.job)
    (subst (λ (h : Held). MayHappen (the_view c.self.inside) (Finish c.args.worker h.job)) (sym c.held.view_is)
    (finishes (the_view c.self.inside) c.self.invariant c.args.worker c.in_ok-held.held c.in_ok-held.ensures (c.is_turned.ensures.0 c.if-not-is_turned.false)))
    c.finish.new.self c.in-Ok.ensures.ok)

pub returns-then-not-is_turned-clause-refused : goal.returns-then-not-is_turned-clause-refused
returns-then-not-is_turned-clause-refused c =
    rw (← c.self.view_is) (
      c.in_ok-held.held,
      runs_now (the_view c.self.inside) c.args.worker c.in_ok-held.held c.in_ok-held.ensures,
      ends_none (the_view c.self.inside) c.args.worker c.in_ok-held.held c.in_ok-held.ensures c.in_ok-held.held.job refl
          (is_not c.is_turned.result (IsTurned c.in_ok-held.held.job c.in_ok-held.held.step) c.is_turned.ensures c.if-not-is_turned.true),
    )

pub returns-in_default-clause-refused : goal.returns-in_default-clause-refused
returns-in_default-clause-refused c =
    rw (← c.self.view_is) (
      c.in_ok-held.held,
      runs_now (the_view c.self.inside) c.args.worker c.in_ok-held.held c.in_ok-held.ensures,
      finishes (the_view c.self.inside) c.self.invariant c.args.worker c.in_ok-held.held c.in_ok-held.ensures (c.is_turned.ensures.0 c.if-not-is_turned.false),
    )
