use Rattle.std.proofs.Common.{refl}
use Rattle.job_core.specs.declared.names.Event.TheVariants.{Start}
use Rattle.task_board.proofs.BoardEvents.{next_from, kept_after, happens}
use Rattle.task_board.proofs.board.TaskBoard.begin.Goals as goal

pub start-requires : goal.start-requires
start-requires c = next_from c.self.inside.session.now c.self.inside.jobs c.self.inside.frame_store c.self.invariant c.args.worker c.args.job c.args.place (rw (← c.self.view_is) at c.requires.legal) (rw (← c.self.view_is) at c.requires.place)

pub invariant_of-self : goal.invariant_of-self
invariant_of-self c = rw c.in_default.ensures.unchanged c.self.invariant

pub invariant_of-self-2 : goal.invariant_of-self-2
invariant_of-self-2 c = kept_after c.self.inside.session.now c.self.inside.jobs c.self.inside.frame_store c.self.invariant (Start c.args.worker c.args.job) (rw (← c.self.view_is) at c.requires.legal) c.start.new.self c.in-Ok.ensures.ok c.self.inside.frame_store refl

pub returns-clause-ok : goal.returns-clause-ok
returns-clause-ok c = let legal = rw (← c.self.view_is) at c.requires.legal in rw (← c.self.view_is) (happens c.self.inside.session.now c.self.inside.jobs c.self.inside.frame_store c.self.invariant (Start c.args.worker c.args.job) legal c.start.new.self c.in-Ok.ensures.ok)
