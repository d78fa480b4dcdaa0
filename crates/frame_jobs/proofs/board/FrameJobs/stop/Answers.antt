use Rattle.std.proofs.Common.{sym, ◌∙◌}
use Rattle.job_core.specs.declared.names.Event.TheVariants.{Stop}
use Rattle.frame_jobs.specs.contracts.board.FrameJobs.{the_view}
use Rattle.frame_jobs.proofs.BoardEvents.{always, after_of}
use Rattle.frame_jobs.proofs.board.FrameJobs.stop.Goals as goal

pub invariant_of-self : goal.invariant_of-self
invariant_of-self c =
    after_of (the_view c.self.inside) Stop c.self.invariant (always (the_view c.self.inside) Stop c.self.invariant (λ q l. (sym (c.is_stopped.ensures q l) ∙ c.if-is_stopped.false, tt))) c.stop.new.self c.stop.ensures
