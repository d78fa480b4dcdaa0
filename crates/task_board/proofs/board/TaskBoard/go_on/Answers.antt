use Rattle.job_core.specs.declared.names.Event.TheVariants.{Resume}
use Rattle.task_board.specs.Boards.{state_in}
use Rattle.task_board.proofs.BoardEvents.{next_at, kept_after, happens, seen_as}
use Rattle.task_board.proofs.board.TaskBoard.go_on.Goals as goal

pub resume-requires : goal.resume-requires
resume-requires c = next_at c.self.inside.session.now c.self.inside.jobs c.self.inside.frame_store c.self.invariant c.args.worker c.args.fiber c.args.job c.args.place (rw (← c.self.view_is) at c.requires.legal) (rw (← c.self.view_is) at c.requires.holder) (rw (← c.self.view_is) at c.requires.place)

pub invariant_of-self : goal.invariant_of-self
invariant_of-self c = rw c.in_default.ensures.unchanged c.self.invariant

pub invariant_of-self-2 : goal.invariant_of-self-2
invariant_of-self-2 c = kept_after c.self.inside.session.now c.self.inside.jobs c.self.inside.frame_store c.self.invariant (Resume c.args.worker c.args.job) (rw (← c.self.view_is) at c.requires.legal) c.resume.new.self c.in-Ok.ensures.ok c.go_on.new.self (c.go_on.ensures (state_in (seen_as c.self.inside.session.now c.self.inside.jobs)) c.args.worker)

pub returns-clause-ok : goal.returns-clause-ok
returns-clause-ok c = let legal = rw (← c.self.view_is) at c.requires.legal in rw (← c.self.view_is) (happens c.self.inside.session.now c.self.inside.jobs c.self.inside.frame_store c.self.invariant (Resume c.args.worker c.args.job) legal c.resume.new.self c.in-Ok.ensures.ok)
