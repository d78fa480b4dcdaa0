use Rattle.job_core.specs.declared.names.Event.TheVariants.{Start}
use Rattle.frame_jobs.specs.contracts.board.FrameJobs.{the_view}
use Rattle.frame_jobs.proofs.BoardEvents.{always, next_of, after_of}
use Rattle.frame_jobs.proofs.board.FrameJobs.start.Goals as goal

pub start-requires : goal.start-requires
start-requires c = record { next = next_of (the_view c.self.inside) (Start c.args.worker c.args.job) (always (the_view c.self.inside) (Start c.args.worker c.args.job) c.self.invariant c.in-Some.ensures.some); queued = c.in-Some.ensures.place c.self.invariant.questions }

pub invariant_of-self-2 : goal.invariant_of-self-2
invariant_of-self-2 c =
    after_of (the_view c.self.inside) (Start c.args.worker c.args.job) c.self.invariant (always (the_view c.self.inside) (Start c.args.worker c.args.job) c.self.invariant c.in-Some.ensures.some) c.start.new.self c.in-Ok.ensures.ok
