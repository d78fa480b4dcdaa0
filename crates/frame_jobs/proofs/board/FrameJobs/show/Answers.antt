use Rattle.job_core.specs.declared.names.Event.TheVariants.{Emit}
use Rattle.frame_jobs.specs.contracts.board.FrameJobs.{the_view}
use Rattle.frame_jobs.proofs.BoardEvents.{always, after_of}
use Rattle.frame_jobs.proofs.board.FrameJobs.show.Goals as goal

pub invariant_of-self-2 : goal.invariant_of-self-2
invariant_of-self-2 c =
    after_of (the_view c.self.inside) (Emit c.in_ok-frame.frame) c.self.invariant (always (the_view c.self.inside) (Emit c.in_ok-frame.frame) c.self.invariant c.in_ok-frame.ensures) c.emit.new.self c.in-Ok.ensures.ok
