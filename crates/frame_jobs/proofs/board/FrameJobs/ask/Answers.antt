use Rattle.std.proofs.Common.{sym, subst, arith}
use Rattle.job_core.specs.declared.names.JobName.TheVariants.{Think}
use Rattle.job_core.specs.declared.names.Event.TheVariants.{Ask}
use Rattle.frame_jobs.specs.Boards.{MayHappen}
use Rattle.frame_jobs.specs.contracts.board.FrameJobs.{the_view}
use Rattle.frame_jobs.proofs.BoardEvents.{asks, asks_next, after_of, happens, runs, held_job, held_step}
use Rattle.frame_jobs.proofs.Refusing.{runs_now}
use Rattle.frame_jobs.proofs.board.FrameJobs.ask.Goals as goal

pub ask-requires-clause-next : goal.ask-requires-clause-next
ask-requires-clause-next c =
    asks_next (the_view c.self.inside) c.self.invariant c.args.worker c.in-Think.frame c.in-Think.agent c.held.inside.step c.in_ok-held.held c.in_ok-held.ensures
    (held_job _ _ _ c.held.view_is c.in-Think.is) (held_step _ _ c.held.view_is) (omega (arith, c.if-held-self.false))

pub invariant_of-self-2 : goal.invariant_of-self-2
invariant_of-self-2 c =
    after_of (the_view c.self.inside) (Ask c.args.worker (Think c.in-Think.frame c.in-Think.agent)) c.self.invariant
    (asks (the_view c.self.inside) c.self.invariant c.args.worker c.in-Think.frame c.in-Think.agent c.held.inside.step c.in_ok-held.held c.in_ok-held.ensures
    (held_job _ _ _ c.held.view_is c.in-Think.is) (held_step _ _ c.held.view_is) (omega (arith, c.if-held-self.false)))
    c.ask.new.self c.in-Ok.ensures.ok

pub returns-clause-ok : goal.returns-clause-ok
returns-clause-ok c =
    rw (← c.self.view_is) (
      happens (the_view c.self.inside) (Ask c.args.worker (Think c.in-Think.frame c.in-Think.agent))
          (asks (the_view c.self.inside) c.self.invariant c.args.worker c.in-Think.frame c.in-Think.agent c.held.inside.step c.in_ok-held.held c.in_ok-held.ensures
          (held_job _ _ _ c.held.view_is c.in-Think.is) (held_step _ _ c.held.view_is) (omega (arith, c.if-held-self.false)))
          c.ask.new.self c.in-Ok.ensures.ok,
      λ q l. runs (the_view c.self.inside) c.self.invariant c.args.worker c.in-Think.frame c.in-Think.agent c.held.inside.step c.in_ok-held.held c.in_ok-held.ensures
          (held_job _ _ _ c.held.view_is c.in-Think.is) (held_step _ _ c.held.view_is) q l,
    )

pub returns-in_default-ask-clause-refused : goal.returns-in_default-ask-clause-refused
returns-in_default-ask-clause-refused c =
    let may =
    asks (the_view c.self.inside) c.self.invariant c.args.worker c.in-Think.frame c.in-Think.agent c.held.inside.step c.in_ok-held.held c.in_ok-held.ensures
    (held_job _ _ _ c.held.view_is c.in-Think.is) (held_step _ _ c.held.view_is) (omega (arith, c.if-held-self.false)) in
    rw (← c.self.view_is) (
      c.in_ok-held.held,
      runs_now (the_view c.self.inside) c.args.worker c.in_ok-held.held c.in_ok-held.ensures,
      subst (λ j. MayHappen (the_view c.self.inside) (Ask c.args.worker j)) (sym (held_job _ _ _ c.held.view_is c.in-Think.is)) may,
    )
