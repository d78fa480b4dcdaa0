use Rattle.job_core.specs.declared.names.Event.TheVariants.{Resume}
use Rattle.frame_jobs.specs.contracts.board.FrameJobs.{the_view}
use Rattle.frame_jobs.proofs.BoardEvents.{always, after_of}
use Rattle.frame_jobs.proofs.board.FrameJobs.resume.Goals as goal

pub invariant_of-self-2 : goal.invariant_of-self-2
invariant_of-self-2 c =
    after_of (the_view c.self.inside) (Resume c.args.worker c.args.job) c.self.invariant (always (the_view c.self.inside) (Resume c.args.worker c.args.job) c.self.invariant (λ q l. (c.in-Some.ensures.some q l).0)) c.resume.new.self c.in-Ok.ensures.ok
